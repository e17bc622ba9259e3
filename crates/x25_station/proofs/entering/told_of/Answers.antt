use Rattle.x25_station.proofs.Names.{◌≡◌, ℕ, List, ap, sym, subst, take, ◌∙◌, take_all, plain_notice, Notice, Params, IsShort}
use Rattle.x25_circuit.specs.Notice.{incoming, interrupted}
use Rattle.x25_packet.specs.Views.{user_of}
use Rattle.x25_station.proofs.entering.told_of.Goals as goal

incoming_is : (a b k d u v : List ℕ) (params : Params) → a ≡ b → k ≡ d → u ≡ v → incoming (record { called = a; calling = k; user = u; params = params })
    ≡ incoming (record { called = b; calling = d; user = v; params = params })
incoming_is a b k d u v params p q r =
    ap (λ (x : List ℕ). incoming (record { called = x; calling = k; user = u; params = params })) p
    ∙ ap (λ (x : List ℕ). incoming (record { called = b; calling = x; user = u; params = params })) q
    ∙ ap (λ (x : List ℕ). incoming (record { called = b; calling = d; user = x; params = params })) r

pub returns-in-Incoming : goal.returns-in-Incoming
returns-in-Incoming c = λ short.
    let now = subst (λ (n : Notice). IsShort (plain_notice c.args.lent.now.message n)) c.in-Incoming.is short in
    let user = user_of c.in-Incoming.a c.in-Incoming.body.now in
    incoming_is _ _ _ _ _ _ c.in-Incoming.params (c.set_digits.ensures ∙ c.call_views-views.ensures.called)
    (c.set_digits-in-Incoming.ensures ∙ c.call_views-views.ensures.calling)
    (c.set.ensures ∙ ap (λ (octets : List ℕ). take 128 octets) c.call_views-views.ensures.user ∙ take_all 128 user now)
    ∙ sym (ap (plain_notice c.args.lent.now.message) c.in-Incoming.is)

pub returns-in-Interrupted : goal.returns-in-Interrupted
returns-in-Interrupted c = λ short.
    let now = subst (λ (n : Notice). IsShort (plain_notice c.args.lent.now.message n)) c.in-Interrupted.is short in
    ap (λ (x : List ℕ). interrupted x) (c.set-in-Interrupted.ensures ∙ take_all 128 c.in-Interrupted.user.now now)
    ∙ sym (ap (plain_notice c.args.lent.now.message) c.in-Interrupted.is)
