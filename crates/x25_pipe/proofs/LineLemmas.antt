-- What a line asks for.
use Rattle.x25_pipe.proofs.Names.{◌≡◌, ◌∙◌, ◌≤◌, ◌<◌, ℕ, Bool, List, length, if◌then◌else◌, Option, None, ap, sym, lt-leb, Role, event_in}
use Rattle.std.proofs.lemmas.Bool.{le-leb}
use Rattle.x25_decode.specs.Decoding.{sent_in}
use Rattle.x25_io.specs.HeldLine.{most_line}
use Rattle.x25_pipe.specs.Pipe.{read_event}

-- a line that isn't too long is read
event_read : (wide : Bool) (end : Role) (line : List ℕ) (sent : Option (Role × List ℕ)) → length line ≤ most_line → sent_in line ≡ sent
    → event_in wide end line ≡ read_event wide end line sent
unfolding event_in
event_read wide end line sent few is = ap (λ b. if b then read_event wide end line (sent_in line) else None) (le-leb (length line) most_line few)
    ∙ ap (read_event wide end line) is

pub event_long : (wide : Bool) (end : Role) (line : List ℕ) → most_line < length line → event_in wide end line ≡ None
unfolding event_in
event_long wide end line long = ap (λ b. if b then read_event wide end line (sent_in line) else None) (lt-leb (length line) most_line long)

pub event_read_at : (wide : Bool) (end role : Role) (line : List ℕ) (sent : Option (Role × List ℕ)) → end ≡ role → length line ≤ most_line → sent_in line ≡ sent
    → read_event wide end line sent ≡ event_in wide role line
event_read_at wide end role line sent same few is = ap (λ e. read_event wide e line sent) same ∙ sym (event_read wide role line sent few is)
