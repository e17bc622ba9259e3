-- The grammar of a script's lines: which characters spell which line (profile).
use Rattle.std.specs.Prelude.{ℕ, ◌≡◌, ◌≤◌, ◌∷◌, [], List, ◌++◌, Bool, true, false, codes, decimal, Option, Some, None}
use Rattle.std.specs.Prelude.{Ok}
use Rattle.std.specs.Char.{is_ascii_digit}
use Rattle.std.specs.List.{list_all}
use Rattle.hex.specs.Hex.{decode_of}
use Rattle.x25_bits.specs.declared.role.Role.{Role}
use Rattle.x25_bits.specs.declared.role.Role.TheVariants.{Dte, Dce}
use Rattle.x25_circuit.specs.declared.params.Params.{Params}
use Rattle.x25_script.specs.declared.given.Given.{Given}
use Rattle.x25_script.specs.ScriptLine.{PlainCommand, call, accept, clear, send, interrupt, reset, ready, not_ready}
use Rattle.x25_script.specs.ScriptLine.{restart, pull, connect, disconnect, probe, relink, PlainLine, command, t1}
use Rattle.x25_script.specs.ScriptLine.{deliver, lose}
use Rattle.x25_script.specs.ScriptLine.{damage, drain, heal, with_given}

-- an end
abbrev pub end_text : Role → List ℕ
end_text Dte = codes "dte"
end_text Dce = codes "dce"

-- the direction away from an end
abbrev pub direction_text : Role → List ℕ
direction_text Dte = codes ">"
direction_text Dce = codes "<"

-- Q
abbrev pub q_text : Bool → List ℕ
q_text false = codes "0"
q_text true = codes "1"

-- a number of 16 bits, written by `decimal`: without leading zeros
abbrev pub IsNumber : ℕ → Type 0
IsNumber n = n ≤ 65535

-- an address: its digits, `-` where there are none
abbrev pub address_text : List ℕ → List ℕ
address_text [] = codes "-"
address_text (digit ∷ digits) = digit ∷ digits

abbrev pub IsAddress : List ℕ → Type 0
IsAddress digits = list_all is_ascii_digit digits ≡ true

-- octets: two hexadecimal digits of either case for each, `-` where there are none
abbrev pub Writes : List ℕ → List ℕ → Type 0
Writes text [] = text ≡ codes "-"
Writes text (octet ∷ octets) = decode_of text ≡ Ok (octet ∷ octets)

-- four numbers of 8 bits, or none
abbrev pub AreParams : Option Params → Type 0
AreParams None = Unit
AreParams (Some p) = (p.size_called ≤ 255) × (p.size_calling ≤ 255) × (p.win_called ≤ 255) × (p.win_calling ≤ 255)

-- each behind a blank
abbrev pub params_text : Option Params → List ℕ
params_text None = []
params_text (Some p) = codes " " ++ (decimal p.size_called ++ (codes " " ++ (decimal p.size_calling
    ++ (codes " " ++ (decimal p.win_called ++ (codes " " ++ decimal p.win_calling))))))

-- a number of 8 bits, or none
abbrev pub IsSmall : Option ℕ → Type 0
IsSmall None = Unit
IsSmall (Some n) = n ≤ 255

abbrev pub IsGiven : Given → Type 0
IsGiven given = IsSmall given.cause × IsSmall given.diagnostic

-- behind a blank and its label, where there is one
abbrev pub labelled_text : List ℕ → Option ℕ → List ℕ
labelled_text label None = []
labelled_text label (Some n) = codes " " ++ (label ++ decimal n)

abbrev pub given_text : Given → List ℕ
given_text given = labelled_text (codes "cause=") given.cause ++ labelled_text (codes "diag=") given.diagnostic

-- what is asked of a call
abbrev pub SpellsPart : PlainCommand → List ℕ → Type 0
SpellsPart (call called calling user params) text = IsAddress called × IsAddress calling × AreParams params
    × ((digits : List ℕ) × Writes digits user
    × (text ≡ codes "call " ++ (address_text called ++ (codes " " ++ (address_text calling
    ++ (codes " " ++ (digits ++ params_text params)))))))
SpellsPart (accept channel params) text = IsNumber channel × AreParams params
    × (text ≡ codes "accept " ++ (decimal channel ++ params_text params))
SpellsPart (clear channel given) text = IsNumber channel × IsGiven given
    × (text ≡ codes "clear " ++ (decimal channel ++ given_text given))
SpellsPart asked text = ⊥

-- the word for D, with its blank
abbrev pub d_text : Bool → List ℕ
d_text false = []
d_text true = codes "d "

-- what follows the end that is commanded
abbrev pub SpellsCommand : PlainCommand → List ℕ → Type 0
SpellsCommand (call called calling user params) text = SpellsPart (call called calling user params) text
SpellsCommand (accept channel params) text = SpellsPart (accept channel params) text
SpellsCommand (clear channel given) text = SpellsPart (clear channel given) text
SpellsCommand (with_given facilities user d asked) text = (field : List ℕ) × Writes field facilities
    × ((digits : List ℕ) × Writes digits user
    × ((rest : List ℕ) × SpellsPart asked rest
    × (text ≡ codes "with " ++ (field ++ (codes " " ++ (digits ++ (codes " " ++ (d_text d ++ rest))))))))
SpellsCommand (send channel q d user) text = IsNumber channel
    × ((digits : List ℕ) × Writes digits user
    × (text ≡ codes "send " ++ (decimal channel ++ (codes " " ++ (q_text q ++ (codes " " ++ (d_text d ++ digits)))))))
SpellsCommand (interrupt channel user) text = IsNumber channel
    × ((digits : List ℕ) × Writes digits user
    × (text ≡ codes "int " ++ (decimal channel ++ (codes " " ++ digits))))
SpellsCommand (reset channel given) text = IsNumber channel × IsGiven given
    × (text ≡ codes "reset " ++ (decimal channel ++ given_text given))
SpellsCommand (ready channel) text = IsNumber channel × (text ≡ codes "ready " ++ decimal channel)
SpellsCommand (not_ready channel) text = IsNumber channel × (text ≡ codes "notready " ++ decimal channel)
SpellsCommand (restart given) text = IsGiven given × (text ≡ codes "restart" ++ given_text given)
SpellsCommand pull text = text ≡ codes "pull"
SpellsCommand connect text = text ≡ codes "connect"
SpellsCommand disconnect text = text ≡ codes "disconnect"
SpellsCommand probe text = text ≡ codes "probe"
SpellsCommand relink text = text ≡ codes "relink"

-- the characters spell the line
abbrev pub Spells : PlainLine → List ℕ → Type 0
Spells (command end asked) text = (rest : List ℕ) × (text ≡ end_text end ++ (codes " " ++ rest))
    × SpellsCommand asked rest
Spells (t1 end) text = text ≡ codes "t1 " ++ end_text end
Spells (deliver from) text = text ≡ codes "deliver " ++ direction_text from
Spells (lose from place) text = IsNumber place
    × (text ≡ codes "lose " ++ (direction_text from ++ (codes " " ++ decimal place)))
Spells (damage from place octets) text = IsNumber place
    × ((digits : List ℕ) × Writes digits octets
    × (text ≡ codes "damage " ++ (direction_text from ++ (codes " " ++ (decimal place ++ (codes " " ++ digits))))))
Spells (drain count) text = IsNumber count × (1 ≤ count) × (text ≡ codes "drain " ++ decimal count)
Spells heal text = text ≡ codes "heal"
