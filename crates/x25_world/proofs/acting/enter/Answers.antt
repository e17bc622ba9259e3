use Rattle.x25_world.proofs.Names.{◌≡◌, ◌∙◌, ◌++◌, [], List, append-nil, ap, arith, length, nat_le, sym, true, leb-true, StationEntry, entered, plain_told}
use Rattle.x25_world.proofs.Names.{Entered}
use Rattle.std.proofs.lemmas.{Grind.{flat_map-append}, List.{nil_from_length}}
use Rattle.x25_world.proofs.acting.enter.Goals as goal

none_told : (es : List StationEntry) → nat_le (length es) 0 ≡ true → es ≡ []
none_told es is = let none = leb-true (length es) 0 is in nil_from_length es (omega (arith, none))

pub returns-then-is_empty-clause-entries : goal.returns-then-is_empty-clause-entries
returns-then-is_empty-clause-entries c =
    sym (append-nil (plain_told c.args.transcript.now.items))
    ∙ ap (λ (es : List StationEntry). plain_told c.args.transcript.now.items ++ entered c.args.at es)
    (sym (none_told c.args.told.now.items (sym c.is_empty.ensures ∙ c.if-is_empty.true)))

pub returns-clause-entries : goal.returns-clause-entries
returns-clause-entries c =
    ap plain_told c.push_reserved.ensures.items
    ∙ flat_map-append (λ (e : Entered). entered e.at e.entries.items) c.args.transcript.now.items _
    ∙ ap (λ es. plain_told c.args.transcript.now.items ++ es) (append-nil _)
    ∙ ap (λ e. plain_told c.args.transcript.now.items ++ entered c.args.at e.items) c.replace-entries.ensures.value
