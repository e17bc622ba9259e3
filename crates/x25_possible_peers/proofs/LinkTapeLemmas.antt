-- A tape of a peer of the link is one of an end that keeps the rules of a link.
use Rattle.x25_possible_peers.proofs.Names.{◌≡◌, inl, inr, ℕ, List, [], ◌∷◌, ◌++◌, refl, sym, ap, subst, ◌∙◌, Ends, Letter, near_now, Peer, Item, Stands, Owes}
use Rattle.x25_line.specs.laws.Ends.{with_packet}
use Rattle.x25_possible.specs.laws.Possible.{Begins as RunBegins, Sends as RunSends, Shows as RunShows, Takes as RunTakes}
use Rattle.x25_possible_links.specs.laws.{Link.{At, State, link_rules}, Sets.{IsTimely}}
use Rattle.x25_possible_peers.proofs.{LinkLemmas.{link_steps, now_is}, Names.{Frame, Stand, stand_of, AreShown}}
use Rattle.x25_possible_peers.specs.laws.LinkPeers.{StandsAt, IsShown, Goes, sent_on, LinkStands, Begins, HandsDown, Steps, Shown, Others, IsPrompt}
use Rattle.x25_line.specs.laws.Ends as line

-- ---- what is on the way

shown_push : (es : List Letter) (way : List Frame) (e : Letter) (x : Frame) → IsShown e.said x → AreShown es way
    → AreShown (es ++ e ∷ []) (way ++ x ∷ [])
shown_push [] [] e x is shown = (is, tt)
shown_push (f ∷ es) (y ∷ way) e x is shown = (shown.0, shown_push es way e x is shown.1)
shown_push [] (y ∷ way) e x is shown = absurd shown
shown_push (f ∷ es) [] e x is shown = absurd shown

shown_behind : (taken es : List Letter) (came way : List Frame) → AreShown taken came → AreShown (taken ++ es) (came ++ way) → AreShown es way
shown_behind [] es [] way comes shown = shown
shown_behind (e ∷ taken) es (x ∷ came) way comes shown = shown_behind taken es came way comes.1 shown.1
shown_behind [] es (x ∷ came) way comes shown = absurd comes
shown_behind (e ∷ taken) es [] way comes shown = absurd comes

-- ---- a run

-- a run that goes on from another
record GoesOn (begun : List Stand) {tape : List (Item Frame)} {s : State} {way : List Frame} (run : Stands (link_rules begun) tape s way)
    (longer : List (Item Frame)) (r : Stand) (rest : List Frame) : Type 0 where
  next : Stands (link_rules begun) longer (At r) rest
  timely : IsTimely run → IsTimely next

goes_on : (begun : List Stand) (tape : List (Item Frame)) (s r : Stand) (came way own : List Frame)
    (run : Stands (link_rules begun) tape (At s) (came ++ way)) → Goes s came way own r → GoesOn begun run (sent_on own tape) r way
goes_on begun tape s r [] way [] run same = subst (λ z. GoesOn begun run tape z way) same (record { next = run; timely = λ t. t })
goes_on begun tape s r [] way (x ∷ []) run may = record { next = RunSends tape (At s) (At r) way x may run; timely = λ t. t }
goes_on begun tape s r (y ∷ []) way [] run may = record { next = RunTakes tape (At s) (At r) way y may run; timely = λ t. t }
goes_on begun tape s r (y ∷ []) way (x ∷ []) run may = record {
  next = RunSends tape (Owes r) (At r) way x may.1 (RunTakes tape (At s) (Owes r) way y may.0 run);
  timely = λ t. t;
}
goes_on begun tape s r (y ∷ z ∷ came) way own run may = absurd may
goes_on begun tape s r [] way (x ∷ z ∷ own) run may = absurd may
goes_on begun tape s r (y ∷ []) way (x ∷ z ∷ own) run may = absurd may

pub record Explained {begun : List Stand} {tape : List (Item Frame)} {w : Ends} {way : List Frame} (run : LinkStands begun tape w way) : Type 0 where
  pub stand : Stand
  pub stands : StandsAt stand w
  pub shown : AreShown w.two.back way
  pub explains : Stands (link_rules begun) tape (At stand) way
  pub timely : IsPrompt run → IsTimely explains

same_numbers : (c : line.Stand) (p : Peer) (given : List (List ℕ)) → stand_of c p ≡ stand_of c (record p { given = given })
same_numbers line.Out p given = refl
same_numbers line.Asking p given = refl
same_numbers line.In p given = refl

handed : (s : Stand) (w : Ends) (packet : List ℕ) → StandsAt s w → StandsAt s (with_packet packet w)
handed s w packet (inl e) =
    inl (e ∙ same_numbers w.two.near.stand (near_now w) ((near_now w).given ++ packet ∷ [])
    ∙ ap (λ (p : Peer). stand_of w.two.near.stand p)
    (sym (now_is w.two.near.begun (record (near_now w) { given = (near_now w).given ++ packet ∷ [] }) w.near_of)))
handed s w packet (inr out) = inr out

pub explained : {begun : List Stand} (tape : List (Item Frame)) (w : Ends) (way : List Frame) (run : LinkStands begun tape w way) → Explained run
explained _ w _ (Begins _ s is at none) = record {
  stand = s;
  stands = at;
  shown = subst (λ es. AreShown es []) (sym none) tt;
  explains = RunBegins (At s) (s, is, refl);
  timely = λ prompt. tt;
}
explained tape _ way (HandsDown _ w _ packet run) =
    let e = explained tape w way run in record {
      stand = e.stand;
      stands = handed e.stand w packet e.stands;
      shown = e.shown;
      explains = e.explains;
      timely = e.timely;
    }
explained {begun} _ _ _ (Steps tape w v came way own step run) =
    let e = explained tape w (came ++ way) run in
    let shown = shown_behind step.taken v.two.back came way step.comes (subst (λ es. AreShown es (came ++ way)) step.back e.shown) in
    let may = link_steps w v e.stand came way own e.stands shown step in
    let on = goes_on begun tape e.stand may.stand came way own e.explains may.goes in record {
      stand = may.stand;
      stands = may.stands;
      shown = shown;
      explains = on.next;
      timely = λ prompt. on.timely (e.timely prompt);
    }
explained _ _ _ (Shown tape w way letter x is run) =
    let e = explained tape w way run in record {
      stand = e.stand;
      stands = e.stands;
      shown = shown_push w.two.back way letter x is e.shown;
      explains = RunShows tape (At e.stand) way x e.explains;
      timely = λ prompt. (prompt.0, e.timely prompt.1);
    }
explained tape _ way (Others _ w _ far out met far_of run) =
    let e = explained tape w way run in record {
      stand = e.stand;
      stands = e.stands;
      shown = e.shown;
      explains = e.explains;
      timely = e.timely;
    }
