use Rattle.std.proofs.Common.{◌≡◌, ◌∙◌, ◌++◌, Bool, ap, ap₂, subst, sym}
use Rattle.x25_clock.specs.{Clock.{is_heard}, laws.ClockLaw.{comes}}
use Rattle.std.proofs.lemmas.Result.{MatchResult-weaker}
use Rattle.x25_io.specs.code.Written.{AppendsPrefix, Tells}
use Rattle.x25_station.specs.declared.step.Step as code_step
use Rattle.x25_station.specs.Step.{Did}
use Rattle.x25_station.specs.laws.TimerLaw as timer
use Rattle.x25_pipe.specs.Pipe.{act_of, and_pulls, sayings_text}
use Rattle.x25_pipe.specs.code.Stands.{Acted, IsStep, answer_told}
use Rattle.x25_pipe.proofs.StandLemmas.{begins_step, heard_same, is_step, pulled_step, pulled_timer_is, stands_told}
use Rattle.x25_pipe.proofs.pipe.Pipe.follow_up.Goals as goal

pub returns-clause-acted : goal.returns-clause-acted
returns-clause-acted g c = λ k old s event o told refused is timed come role tells status.
    let before = c.args.self.now in
    let v = before.station in
    let u = c.pull.new.self in
    let step = before.step in
    let both = c.pull.new.out in
    let q = c.tell_answer.new.self in
    let now = g.W.Sink.contents c.tell_answer.new.writer in
    (is_step k v step (λ o. step.timer ≡ timer.timer s event o → Acted k old now q told refused c.tell_answer.result (act_of k s event o))
    (λ plain h timed.
    let pulls = and_pulls k plain in
    let pulled : IsStep k u both (Did pulls) = pulled_step k v u step both (Did plain) h (c.pull.ensures.pulls c.requires) c.pull.ensures.entries in
    let here : IsStep k q.station both (Did pulls) = subst (λ v. IsStep k v both (Did pulls)) (sym c.tell_answer.ensures.station) pulled in
    MatchResult-weaker c.tell_answer.result (c.tell_answer.ensures.tells old told tells)
    (λ _ t. record {
      stands = stands_told k old now q both pulls told refused here (c.tell_answer.ensures.role ∙ role)
          (subst (λ end. Tells old now q.output (told ++ sayings_text end (answer_told both))) role t) (c.tell_answer.ensures.is_refused ∙ status);
      timer = ap (λ (x : code_step.Step). x.timer) c.tell_answer.ensures.step
          ∙ pulled_timer_is k v u step both s event (Did plain) h (c.pull.ensures.timer c.requires k) timed;
      entries = ap (λ (x : code_step.Step). x.entries.items) c.tell_answer.ensures.step ∙ here.enters;
      is_heard = ap₂ (λ (h : Bool) (x : code_step.Step). is_heard h x.frames x.entries.items) (c.tell_answer.ensures.has_come ∙ come) c.tell_answer.ensures.step
          ∙ heard_same k q.station both pulls (comes event) here;
    })
    (λ _ b. begins_step k old now u both pulls told pulled (subst (λ end. AppendsPrefix old now (told ++ sayings_text end (answer_told both))) role b)))
    o is) timed
