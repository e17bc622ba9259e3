use Rattle.std.proofs.Common.{ℕ, ◌∙◌, ◌++◌, ap, length, List, Ok, Some}
use Rattle.x25_given.{proofs.WritingLemmas.{long_enough, call_written}, specs.Given.{plain_given}, specs.Writing.{fields}}
use Rattle.x25_packet.specs.{Block.{fields_octets}, Packet.{plain}, Spelling.{spelling_of}, Views.{called_of, calling_of, field_of, user_of}}
use Rattle.x25_given.proofs.writing.Writing.write.Goals as goal

pub addresses-requires-clause-long : goal.addresses-requires-clause-long
addresses-requires-clause-long c =
    let p = c.in-Call in
    let body = p.body.now in
    long_enough p.channel c.len.result c.len-in-Call.result (called_of p.a body) (calling_of p.a body) (field_of p.a body) (user_of p.a body) c.args.octets.now
    (c.in-Ok.ensures.found.spelling ∙ ap (λ v. spelling_of (plain v)) p.is) (c.len.ensures.number ∙ ap length c.call_views-views.ensures.called)
    (c.len-in-Call.ensures.number ∙ ap length c.call_views-views.ensures.calling)

pub returns-in-Call-clause-written : goal.returns-in-Call-clause-written
returns-in-Call-clause-written c = λ done.
    let p = c.in-Call in
    let body = p.body.now in
    c.spell.ensures.items
    ∙ ap (λ (user : List ℕ). c.head.result
    ++ (c.addresses.result.now ++ fields_octets (Some (fields (c.as_slice.result.now ++ c.args.given.now.facilities.now) user)))) c.call_views-views.ensures.user
    ∙ call_written (plain_given c.args.given.now) p.channel c.len.result c.len-in-Call.result (called_of p.a body) (calling_of p.a body) (field_of p.a body)
    (user_of p.a body) c.args.octets.now _ c.addresses.result.now c.as_slice.result.now
    (c.in-Ok.ensures.found.spelling ∙ ap (λ v. spelling_of (plain v)) p.is) (c.in-Ok.ensures.exact ∙ ap (λ v. Ok (plain v)) p.is)
    (c.len.ensures.number ∙ ap length c.call_views-views.ensures.called)
    (c.len-in-Call.ensures.number ∙ ap length c.call_views-views.ensures.calling) c.head.ensures c.addresses.ensures
    (c.as_slice.ensures.octets ∙ c.call_views-views.ensures.facilities)
