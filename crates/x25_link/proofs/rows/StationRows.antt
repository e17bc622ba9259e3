-- The definition moves: worked examples, by computing.
use Rattle.x25_link.proofs.Names.{◌≡◌, [], ◌∷◌, ◌++◌, true, false, Ok, refl, info, rr, rej, dm, frmr, LinkSettings, fresh, with_nothing, pumped, LinkStep}
use Rattle.x25_bits.specs.declared.role.Role.TheVariants.{Dte, Dce}
use Rattle.x25_link.{proofs.Names.{row_of, row_of_frame, Down, alone, closed_by, when_down}, specs.Link.{put_step, timer_step}, specs.laws.RestLaw.{IsAtRest}}

abbrev far : LinkSettings
far = record { role = Dce; window = 7; longest = 4099; retries = 10; disc_again = false }

-- an I frame with N(R) 1 where nothing was sent
invalid_nr : (let s = row_of far (1 ∷ 32 ∷ []) (Ok (info 0 1 false [])) (alone fresh) in
    s.side.out) ≡ frmr false (32 ∷ 0 ∷ 8 ∷ []) ∷ []
invalid_nr = refl

gap : (let s = row_of_frame far [] (info 1 0 false (5 ∷ [])) (alone fresh) in s.side.out)
    ≡ rej false 0 false ∷ []
gap = refl

taken : (let s = closed_by 7 (row_of_frame far [] (info 0 0 false (5 ∷ [])) (alone fresh)) in
    s.side.out) ≡ rr false 1 false ∷ []
unfolding pumped
taken = refl

three : (let c : LinkSettings = record far { role = Dte; window = 2 } in
    let a = put_step c (5 ∷ []) fresh in let b = put_step c (6 ∷ []) a.side.near in let d = put_step c (7 ∷ []) b.side.near in
    a.side.out ++ b.side.out ++ d.side.out) ≡ info 0 0 false (5 ∷ []) ∷ info 1 0 false (6 ∷ []) ∷ []
unfolding pumped
three = refl

-- ---- a lost frame comes again: T1 runs out, the poll is answered by F=1, and the frame goes again

abbrev asked : LinkStep
asked = timer_step far (put_step far (5 ∷ []) fresh).side.near

polls_once : asked.side.out ≡ rr true 0 true ∷ []
unfolding pumped
polls_once = refl

answers_poll : (let s = closed_by 7 (row_of_frame far [] (rr true 0 true) (alone fresh)) in s.side.out) ≡ rr false 0 true ∷ []
unfolding pumped
answers_poll = refl

goes_again : (let s = closed_by 7 (row_of_frame far [] (rr false 0 true) (alone asked.side.near)) in s.side.out) ≡ info 0 0 false (5 ∷ []) ∷ []
unfolding pumped
goes_again = refl

-- it is heard: the station is idle, and timer T1 doesn't run any more
abbrev heard_last : LinkStep
heard_last = closed_by 7 (row_of_frame far [] (rr false 1 false) (alone (put_step far (5 ∷ []) fresh).side.near))

at_rest : IsAtRest heard_last.side.near
unfolding pumped
at_rest = record { idle = refl; no_timer = refl }

-- a station that is out declines a poll
declined : (let s = when_down (rr true 0 true) (alone (with_nothing Down 0)) in s.side.out) ≡ dm true ∷ []
declined = refl
