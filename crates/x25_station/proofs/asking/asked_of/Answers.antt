use Rattle.x25_station.proofs.Names.{◌≡◌, ℕ, List, take, Some, ap, sym, subst, ◌∙◌, take_all, Calls, Accepts, Sends, Interrupts, in_brief, plain_request}
use Rattle.x25_circuit.specs.declared.request.Request.{Request}
use Rattle.x25_station.proofs.{Names.{Params, shown, IsBrief}, ShownLemmas.{in_force}}
use Rattle.x25_station.proofs.asking.asked_of.Goals as goal

call_is : (a b k d u v : List ℕ) (p q : Params) → a ≡ b → k ≡ d → u ≡ v → p ≡ q → Calls a k u (in_brief p) ≡ Calls b d v (in_brief q)
call_is a b k d u v p q e f g h =
    ap (λ (x : List ℕ). Calls x k u (in_brief p)) e ∙ ap (λ (x : List ℕ). Calls b x u (in_brief p)) f
    ∙ ap (λ (x : List ℕ). Calls b d x (in_brief p)) g ∙ ap (λ (x : Params). Calls b d v (in_brief x)) h

pub returns-in-Call : goal.returns-in-Call
returns-in-Call c = λ c' l fits configured brief.
    let now = subst (λ (r : Request). IsBrief (plain_request r)) c.in-Call.is brief in
    call_is _ _ _ _ _ _ _ _
    (c.set.ensures ∙ ap (λ (o : List ℕ). take 128 o) c.as_bytes.ensures.value ∙ take_all 128 c.in-Call.called.now now.0)
    (c.set-in-Call.ensures ∙ ap (λ (o : List ℕ). take 128 o) c.as_bytes-in-Call.ensures.value ∙ take_all 128 c.in-Call.calling.now now.1.0)
    (c.set-in-Call-2.ensures ∙ take_all 128 c.in-Call.user.now now.1.1)
    c.params.ensures
    ∙ sym (ap (λ (r : Request). shown (l.circuits c.args.channel) (plain_request r)) c.in-Call.is)

pub returns-in-Accept : goal.returns-in-Accept
returns-in-Accept c = λ c' l fits configured brief.
    let x = l.circuits c.args.channel in
    ap (λ q. Accepts (Some (in_brief q))) (c.unwrap_or.ensures ∙ in_force _ _ x.params _ configured (c.params-in-Accept.ensures c' l fits))
    ∙ sym (ap (λ (r : Request). shown x (plain_request r)) c.in-Accept.is)

pub returns-in-Send : goal.returns-in-Send
returns-in-Send c = λ c' l fits configured brief.
    let now = subst (λ (r : Request). IsBrief (plain_request r)) c.in-Send.is brief in
    ap (λ (x : List ℕ). Sends c.in-Send.marks x) (c.set_message.ensures ∙ take_all 65535 c.in-Send.user.now now)
    ∙ sym (ap (λ (r : Request). shown (l.circuits c.args.channel) (plain_request r)) c.in-Send.is)

pub returns-in-Interrupt : goal.returns-in-Interrupt
returns-in-Interrupt c = λ c' l fits configured brief.
    let now = subst (λ (r : Request). IsBrief (plain_request r)) c.in-Interrupt.is brief in
    ap (λ (x : List ℕ). Interrupts x) (c.set-in-Interrupt.ensures ∙ take_all 128 c.in-Interrupt.user.now now)
    ∙ sym (ap (λ (r : Request). shown (l.circuits c.args.channel) (plain_request r)) c.in-Interrupt.is)
