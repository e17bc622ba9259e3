-- What the number of a refusal says (profile).
use Rattle.std.specs.Prelude.{ℕ, ◌==◌, if◌then◌else◌, List, [], codes}

abbrev pub text_of : ℕ → List ℕ
text_of n =
    if n == 9 then codes "the link isn't up"
    else if n == 10 then codes "256 packets wait"
    else if n == 11 then codes "timer T1 isn't running"
    else if n == 12 then codes "the link is being set up"
    else if n == 13 then codes "the link was ended"
    else if n == 14 then codes "a setting is out of its range"
    else if n == 15 then codes "the link is up"
    else if n == 16 then codes "no station is held"
    else if n == 17 then codes "a station is held where one was to be made"
    else if n == 30 then codes "not in this state of the channel"
    else if n == 31 then codes "8 messages wait"
    else if n == 32 then codes "a message that is too long"
    else if n == 33 then codes "an interrupt isn't confirmed yet"
    else if n == 34 then codes "a parameter is out of range"
    else if n == 40 then codes "a restart is under way"
    else if n == 41 then codes "no channel is free"
    else if n == 42 then codes "no such channel"
    else if n == 60 then codes "no command"
    else if n == 70 then codes "no memory"
    else []
