use Rattle.std.proofs.Common.{◌≡◌, ◌∙◌, ◌==◌, Bool, true, ap, sym, subst, refl, arith, take, drop, slice_index, if◌then◌else◌}
use Rattle.std.proofs.lemmas.Bool.Decides.{nat_tests}
use Rattle.x25_frame.specs.Spelling.{address_of}
use Rattle.x25_frame.specs.Reading.{Gives, kind_of}
use Rattle.x25_frame.proofs.reading.read_addressed.Goals as goal

if_so : {A : Type 0} (b : Bool) (x y : A) → b ≡ true → (if b then x else y) ≡ x
if_so b x y e = rw e refl

pub returns-then-octets-address : goal.returns-then-octets-address
returns-then-octets-address c =
    let octets = c.args.octets.now in
    let e : (slice_index octets 0 == address_of c.args.from true) ≡ true =
    let h = c.if-octets-address.true ∙ c.address.ensures in grind (arith, nat_tests, h) in
    subst (Gives c.read_kind.result) (sym (if_so _ _ _ e ∙ ap (λ n. kind_of c.args.n1 true (slice_index octets 1) (take n (drop 2 octets))) (omega arith)))
    c.read_kind.ensures
