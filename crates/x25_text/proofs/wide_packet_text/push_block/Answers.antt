use Rattle.std.proofs.{Common.{ℕ, List, ◌<◌, ◌≤◌, arith, drop, false, length, subst, sym, take}, Math.Nat.{min-le_left}, lemmas.List.{length-take}}
use Rattle.x25_packet.specs.{Block.{AreAddresses, plain_block}, Digits.{halves_of}}
use Rattle.x25_text.proofs.wide_packet_text.push_block.Goals as goal

few : (n : ℕ) (halves : List ℕ) → n < 16 → length (take n halves) ≤ 15
few n halves small = rw length-take (let less = min-le_left n (length halves) in omega (arith, less, small))

pub push_addresses-requires-clause-called : goal.push_addresses-requires-clause-called
push_addresses-requires-clause-called c =
    let b = plain_block c.args.block.now in
    let h : AreAddresses false b = subst (λ a. AreAddresses a b) c.if-a.false c.requires.block.addresses in
    subst (λ (l : List ℕ). length l ≤ 15) (sym c.called_halves.ensures) (few b.called (drop 0 (halves_of b.addresses)) h.called)

pub push_addresses-requires-clause-calling : goal.push_addresses-requires-clause-calling
push_addresses-requires-clause-calling c =
    let b = plain_block c.args.block.now in
    let h : AreAddresses false b = subst (λ a. AreAddresses a b) c.if-a.false c.requires.block.addresses in
    subst (λ (l : List ℕ). length l ≤ 15) (sym c.calling_halves.ensures) (few b.calling (drop b.called (halves_of b.addresses)) h.calling)
