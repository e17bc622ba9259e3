-- What is told of an end, packet by packet and over whole tapes, by the laws of its sets.
use Rattle.x25_packet_judge.proofs.Names.{and_parts, ◌≡◌, ◌∙◌, ℕ, Bool, true, false, List, [], ◌∷◌, Some, refl, sym, ap, ◌||◌, ◌&&◌, is_some, if◌then◌else◌}
use Rattle.x25_packet_judge.proofs.Names.{not, Role, Dte, Dce, PlainPacket, is_of_all, is_restart, takes, lost, rule_of, item_of, is_order, Book}
use Rattle.x25_packet_judge.proofs.Names.{RestartAwaited, asked_of, awaits, behind_all, behind_item, end_of, is_manners, is_on, is_quiet, moved, of_restarts}
use Rattle.x25_packet_judge.proofs.Names.{refuses, seen_by, set_of, tape_of_restarts, tape_on, rule_told, BooksTellExactly, InnocentTapesStayUntold, IsBehind}
use Rattle.x25_packet_judge.proofs.Names.{MaySend, Spoken, InnocentsStayUntold, IsRude, PoliteStayUntold, SendsExactly, behind, is_known, sends_to, Packet}
use Rattle.x25_packet_judge.proofs.{Names.{Elsewhere, Told}, BookLemmas.{books_follow_tapes, judged_so, takes_is, told_is}}
use Rattle.x25_packet_judge.specs.Book as book
use Rattle.x25_packet_judge.proofs.TellingLemmas.{broken, polite, rude, unbroken, untold}
use Rattle.x25_possible.specs.laws.Possible.{Item, Own, Other}

module _ (sets : SendsExactly) where
  told_by : (from : Role) (channel : ℕ) (packet : PlainPacket) (b : Book) (e : Bool) → awaits from packet b ≡ e → rule_told from channel packet b
      ≡ (if e then Some RestartAwaited else rule_of (sends_to (item_of b.defaults packet) (asked_of from channel packet b)).told (item_of b.defaults packet))
  told_by from channel packet b e is = told_is from channel packet b (λ s x. sets.unknown s x) (is_of_all packet) refl
      ∙ ap (λ e. if e then Some RestartAwaited else rule_of (sends_to (item_of b.defaults packet) (asked_of from channel packet b)).told (item_of b.defaults packet)) is

  -- Elsewhere is refused by the set of restarts
  refused : (from : Role) (packet : PlainPacket) (b : Book) → awaits from packet b ≡ true → is_quiet from b ≡ false
      → is_order (rule_of (sends_to Elsewhere (end_of from b.restarts)).told Elsewhere) ≡ true
  refused from packet b is loud =
      (and_parts (not (is_of_all packet)) _ (ap (λ q. not (is_of_all packet) && refuses from (if q then lost b.restarts else b.restarts)) (sym loud) ∙ is)).1

  pub tell_exactly : BooksTellExactly
  tell_exactly = record {
    told = λ b from channel packet begun tape early fits order.
        sets.told (asked_of from channel packet b) begun tape (item_of b.defaults packet) fits
        (broken _ (item_of b.defaults packet) (ap is_order (sym (told_by from channel packet b false early)) ∙ order));
    untold = λ b from channel packet begun tape early fits order still.
        sets.untold (asked_of from channel packet b) begun tape (item_of b.defaults packet) fits
        (unbroken _ (item_of b.defaults packet) (ap is_order (sym (told_by from channel packet b false early)) ∙ order)) still;
    manners = λ b from channel packet q early rudely there may.
        sets.rude (asked_of from channel packet b) (item_of b.defaults packet) q
        (rude _ (item_of b.defaults packet) (ap is_manners (sym (told_by from channel packet b false early)) ∙ rudely)) there may;
    unknown = λ b from channel packet early none. told_by from channel packet b false early
        ∙ ap (λ (t : Told). rule_of t (item_of b.defaults packet)) (sets.unknown (asked_of from channel packet b) (item_of b.defaults packet) none);
    early = λ b from channel packet is. told_by from channel packet b true is;
    awaited = λ b from packet begun tape is loud fits.
        sets.told (end_of from b.restarts) begun tape Elsewhere fits (broken _ Elsewhere (refused from packet b is loud));
    judged = λ b from channel packet. judged_is from channel packet b (awaits from packet b) refl;
  }
    where
      judged_is : (from : Role) (channel : ℕ) (packet : PlainPacket) (b : Book) (e : Bool) → awaits from packet b ≡ e
          → (takes from channel packet b).verdict.is_judged ≡ (awaits from packet b || (is_restart packet || (is_known (asked_of from channel packet b)
          && (is_some (rule_told from channel packet b) || is_known (moved from channel packet b)))))
      judged_is from channel packet b true is = judged_so from channel packet b (is_of_all packet) refl
          ∙ ap (λ e. e || (is_restart packet || (is_known (asked_of from channel packet b)
          && (is_some (rule_of (sends_to (item_of b.defaults packet) (asked_of from channel packet b)).told (item_of b.defaults packet))
          || is_known (moved from channel packet b))))) is ∙ ap (λ e. e || (is_restart packet || (is_known (asked_of from channel packet b)
          && (is_some (rule_told from channel packet b) || is_known (moved from channel packet b))))) (sym is)
      judged_is from channel packet b false is = judged_so from channel packet b (is_of_all packet) refl
          ∙ ap (λ r. awaits from packet b || (is_restart packet || (is_known (asked_of from channel packet b)
          && (is_some r || is_known (moved from channel packet b))))) (sym (told_by from channel packet b false is))

-- ---- whole tapes

module _ (from : Role) (channel : ℕ) (tape restarts : List (Item Packet)) (b : Book) (begun : IsBehind from channel tape restarts b) where
  loud : (ps : List Spoken) (role : Role) → is_quiet role (behind_all ps b) ≡ false
  loud [] Dte = begun.dte
  loud [] Dce = begun.dce
  loud (p ∷ ps) role = books_follow_tapes.spoken (behind_all ps b) role p.from p.channel p.packet (loud ps role)

  one_more : (i : Item Packet) (to : List (Item Packet)) → behind_item i (behind from to) ≡ behind from (i ∷ to)
  one_more (Own x) to = refl
  one_more (Other x) to = refl

  if_on : (on : Bool) (i : Item Packet) (to : List (Item Packet)) → (if on then behind_item i (behind from to) else behind from to)
      ≡ behind from (if on then i ∷ to else to)
  if_on true i to = one_more i to
  if_on false i to = refl

  takes_on : (from : Role) (of : ℕ) (packet : PlainPacket) (c : Book) (all : Bool) → is_of_all packet ≡ all
      → (takes from of packet c).book.defaults ≡ c.defaults
  takes_on from of packet c true is = ap (λ (s : book.Seen). s.book.defaults) (takes_is from of packet c true is)
  takes_on from of packet c false is = ap (λ (s : book.Seen). s.book.defaults) (takes_is from of packet c false is)

  -- the network stays the same
  on_network : (ps : List Spoken) → (behind_all ps b).defaults ≡ b.defaults
  on_network [] = refl
  on_network (p ∷ ps) = takes_on p.from p.channel p.packet (behind_all ps b) (is_of_all p.packet) refl ∙ on_network ps

  its_set : (ps : List Spoken) → set_of from channel (behind_all ps b) ≡ behind from (tape_on b.defaults from channel ps tape)
  its_set [] = begun.set
  its_set (p ∷ ps) =
      books_follow_tapes.channels (behind_all ps b) from p.from channel p.channel p.packet
      ∙ ap (λ d. if is_on channel p.channel p.packet then behind_item (seen_by from p.from (item_of d p.packet)) (set_of from channel (behind_all ps b))
      else set_of from channel (behind_all ps b)) (on_network ps)
      ∙ ap (λ s. if is_on channel p.channel p.packet then behind_item (seen_by from p.from (item_of b.defaults p.packet)) s else s) (its_set ps)
      ∙ if_on (is_on channel p.channel p.packet) (seen_by from p.from (item_of b.defaults p.packet)) (tape_on b.defaults from channel ps tape)

  restarts_set : (ps : List Spoken) → end_of from (behind_all ps b).restarts ≡ behind from (tape_of_restarts b.defaults from ps restarts)
  restarts_set [] = begun.restart_set
  restarts_set (p ∷ ps) =
      books_follow_tapes.restarts (behind_all ps b) from p.from p.channel p.packet (loud ps p.from)
      ∙ ap (λ d. behind_item (seen_by from p.from (of_restarts d p.packet)) (end_of from (behind_all ps b).restarts)) (on_network ps)
      ∙ ap (behind_item (seen_by from p.from (of_restarts b.defaults p.packet))) (restarts_set ps)
      ∙ one_more (seen_by from p.from (of_restarts b.defaults p.packet)) (tape_of_restarts b.defaults from ps restarts)

  module _ (sets : SendsExactly) (innocents : InnocentsStayUntold) (ps : List Spoken) where
    -- nothing of order is told where the tape of the set that is asked has a run
    asked : (channels : ℕ) (packet : PlainPacket) (on : List (Item Packet)) → awaits from packet (behind_all ps b) ≡ false
        → asked_of from channels packet (behind_all ps b) ≡ behind from on
        → MaySend from on (item_of b.defaults packet) → is_order (rule_told from channels packet (behind_all ps b)) ≡ false
    asked channels packet on none is may =
        ap is_order (told_by sets from channels packet (behind_all ps b) false none)
        ∙ ap (λ d. is_order (rule_of (sends_to (item_of d packet) (asked_of from channels packet (behind_all ps b))).told (item_of d packet)))
        (on_network ps)
        ∙ ap (λ s. is_order (rule_of (sends_to (item_of b.defaults packet) s).told (item_of b.defaults packet))) is
        ∙ untold (sends_to (item_of b.defaults packet) (behind from on)).told (item_of b.defaults packet) (innocents from on (item_of b.defaults packet) may.0 may.1.0 may.1.1)

    not_early : (packet : PlainPacket) → MaySend from (tape_of_restarts b.defaults from ps restarts) Elsewhere → awaits from packet (behind_all ps b) ≡ false
    not_early packet may = ap (λ e. not (is_of_all packet) && e)
        (ap (λ q. refuses from (if q then lost (behind_all ps b).restarts else (behind_all ps b).restarts)) (loud ps from)
        ∙ ap (λ s. is_order (rule_of (sends_to Elsewhere s).told Elsewhere)) (restarts_set ps)
        ∙ untold (sends_to Elsewhere (behind from (tape_of_restarts b.defaults from ps restarts))).told Elsewhere
        (innocents from (tape_of_restarts b.defaults from ps restarts) Elsewhere may.0 may.1.0 may.1.1)) ∙ none (not (is_of_all packet))
      where
        none : (a : Bool) → (a && false) ≡ false
        none true = refl
        none false = refl

    never : (packet : PlainPacket) → is_of_all packet ≡ true → awaits from packet (behind_all ps b) ≡ false
    never packet is = ap (λ a. not a && refuses from (if is_quiet from (behind_all ps b) then lost (behind_all ps b).restarts else (behind_all ps b).restarts))
        is

    one : (packet : PlainPacket) → is_of_all packet ≡ false → asked_of from channel packet (behind_all ps b) ≡ set_of from channel (behind_all ps b)
    one packet is = ap (λ a. if a then end_of from (behind_all ps b).restarts else set_of from channel (behind_all ps b)) is

    all : (of : ℕ) (packet : PlainPacket) → is_of_all packet ≡ true → asked_of from of packet (behind_all ps b) ≡ end_of from (behind_all ps b).restarts
    all of packet is = ap (λ a. if a then end_of from (behind_all ps b).restarts else set_of from of (behind_all ps b)) is

  -- RESTART that is to be answered is of order
  module _ (sets : SendsExactly) (ps : List Spoken) (packet : PlainPacket) where
    none_polite : (e : Bool) → awaits from packet (behind_all ps b) ≡ e → is_of_all packet ≡ false
        → (IsRude (sends_to (item_of b.defaults packet) (behind from (tape_on b.defaults from channel ps tape))).told → ⊥)
        → is_manners (rule_told from channel packet (behind_all ps b)) ≡ false
    none_polite true is of mild = ap is_manners (told_by sets from channel packet (behind_all ps b) true is)
    none_polite false is of mild =
        ap is_manners (told_by sets from channel packet (behind_all ps b) false is)
        ∙ ap (λ d. is_manners (rule_of (sends_to (item_of d packet) (asked_of from channel packet (behind_all ps b))).told (item_of d packet)))
        (on_network ps)
        ∙ ap (λ s. is_manners (rule_of (sends_to (item_of b.defaults packet) s).told (item_of b.defaults packet)))
        (ap (λ a. if a then end_of from (behind_all ps b).restarts else set_of from channel (behind_all ps b)) of ∙ its_set ps)
        ∙ polite (sends_to (item_of b.defaults packet) (behind from (tape_on b.defaults from channel ps tape))).told (item_of b.defaults packet) mild

pub innocent_tapes : SendsExactly → InnocentsStayUntold → PoliteStayUntold → InnocentTapesStayUntold
innocent_tapes sets innocents politely = record {
  sends = λ b from channel tape restarts ps packet begun is may free.
      asked from channel tape restarts b begun sets innocents ps channel packet (tape_on b.defaults from channel ps tape)
      (not_early from channel tape restarts b begun sets innocents ps packet free)
      (one from channel tape restarts b begun sets innocents ps packet is ∙ its_set from channel tape restarts b begun ps) may;
  restarts = λ b from channel of tape restarts ps packet begun is may.
      asked from channel tape restarts b begun sets innocents ps of packet (tape_of_restarts b.defaults from ps restarts)
      (never from channel tape restarts b begun sets innocents ps packet is)
      (all from channel tape restarts b begun sets innocents ps of packet is ∙ restarts_set from channel tape restarts b begun ps) may;
  polite = λ b from channel tape restarts ps packet s r way t begun is stands sends mild.
      none_polite from channel tape restarts b begun sets ps packet (awaits from packet (behind_all ps b)) refl is
      (politely from (tape_on b.defaults from channel ps tape) (item_of b.defaults packet) s r way t stands sends mild);
}
