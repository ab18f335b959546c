use Rattle.std.proofs.Common.{◌≡◌, ◌≤◌, sym, ap, subst, ◌∙◌, arith}
use Rattle.std.specs.FinMap.{len}
use Rattle.mea_meet_core.specs.Shutdown.{Shutdown}
use Rattle.mea_job_core.specs.Work.{free_of}
use Rattle.mea_job_core.specs.Service.{Service}
use Rattle.mea_job_core.specs.Parts.{IsOnly}
use Rattle.mea_job_core.proofs.Counting.{later_above, accepted_counted, shut_more}
use Rattle.mea_job_core.proofs.job_core.JobCore.submit.Goals as goal
use Rattle.mea_job_core.proofs.job_core.JobCore.submit.Goals.{else-free-eq0-via-then-free-eq0+else-queued-self, else-free-eq0-via-else-free-eq0}

pub invariant_of-self-2 : goal.invariant_of-self-2
invariant_of-self-2 g c =
    let s = c.self.inside in
    let le = subst (λ n. n ≤ c.args.number) (sym (ap (λ (t : Service _). t.next) c.self.view_is)) c.requires.0 in
    let still = sym c.is_stopped.ensures ∙ c.if-is_stopped.false in
    let did = c.in-Ok.ensures.ok.1 in
    let more = c.in-Ok-add_receiver.ensures.ok in
    let room : free_of s.work.seen ≡ 0 → len s.work.seen.queued ≡ s.most_queued → ⊥ =
    λ none full. elim c.else-free-eq0.branch [ else-free-eq0-via-then-free-eq0+else-queued-self w ↦ omega (arith, none, full) | else-free-eq0-via-else-free-eq0 w ↦ omega (arith, none, full, c.free.ensures.is) ] in
    record {
      quiet = c.self.invariant.quiet;
      shut = shut_more s.shutdown c.add_receiver.new.self s.work.seen c.accept.new.self.seen c.args.number c.args.key c.args.value (later_above s.work.seen s.next c.args.number le c.self.invariant.counted.above) did more c.self.invariant.shut;
      only = subst (λ (t : Shutdown _). IsOnly t.receivers.waiting s.end) (sym more) c.self.invariant.only;
      counted = accepted_counted s.work.seen c.args.number c.args.key c.args.value c.accept.new.self.seen s.most_queued s.next s.finished s.returned did le c.requires.1 room still c.self.invariant.counted;
      asked = omega (arith, c.accept.ensures.asked, c.self.invariant.asked, le);
    }
