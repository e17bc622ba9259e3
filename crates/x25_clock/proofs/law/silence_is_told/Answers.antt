use Rattle.x25_clock.proofs.SilenceLemmas.{Silent, silence_ends, idle_is_asked, idle_is_since_heard, noise_is_unheard}
use Rattle.x25_clock.proofs.law.silence_is_told.Goals as goal

pub returns : goal.returns
returns c =
    let silent = c.silence_is_asked.ensures in
    let rests = c.stations_ask_or_rest.ensures in
    let laws : Silent = record { asks = silent; new = rests.new; stays = rests.stays; rests = rests.asks } in
    record { ends = silence_ends laws; idle = idle_is_asked silent; since = idle_is_since_heard; noise = noise_is_unheard laws }
