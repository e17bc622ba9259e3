-- The number of each refusal of a link (profile).
use Rattle.std.specs.Prelude.{ℕ}
use Rattle.x25_link.specs.declared.error.LinkError.{LinkError}
use Rattle.x25_link.specs.declared.error.LinkError.TheVariants.{NotUp, QueueFull, NotRunning, AlreadyWaiting, Closed}
use Rattle.x25_link.specs.declared.error.LinkError.TheVariants.{BadConfig, AlreadyUp, NoMemory}

abbrev pub number_of : LinkError → ℕ
number_of NotUp = 9
number_of QueueFull = 10
number_of NotRunning = 11
number_of AlreadyWaiting = 12
number_of Closed = 13
number_of BadConfig = 14
number_of AlreadyUp = 15
number_of NoMemory = 70
