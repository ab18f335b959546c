use Rattle.std.proofs.Common.{refl, ap, sym, subst, ◌∙◌, arith}
use Rattle.std.specs.FinMap.{get, len, remove}
use Rattle.mea_base.proofs.Maps.{is_there, removed_none}
use Rattle.mea_share_core.proofs.Kept.{len-fewer, len-more}
use Rattle.mea_share_core.specs.Fair.{Fair}
use Rattle.mea_job_core.specs.Work.{number_in}
use Rattle.mea_job_core.specs.Tied.{IsFair, submission_of}
use Rattle.mea_job_core.proofs.Fairs.{lives, nobody, admitted, admitted_job, starts_now, none_ends, one_ends}
use Rattle.mea_job_core.proofs.work.end_job.Goals as goal

pub release-requires : goal.release-requires
release-requires c = lives c.args.fair.now c.args.queued.now c.args.running.now.things c.requires.fair c.args.number c.remove-key.result c.remove-key.ensures.value

-- ---- nobody starts
pub returns-in_default-clause-fair : goal.returns-in_default-clause-fair
returns-in_default-clause-fair c =
    let none = c.in_default.ensures.none in
    let over = nobody c.args.fair.now c.args.queued.now c.args.running.now.things c.requires.fair c.args.number c.remove-key.result c.remove-key.ensures.value c.release.new.self c.release.ensures.gives_back none.0 c.release.ensures.settled in
    subst (λ n. IsFair c.next_wake.new.self c.args.queued.now n) (sym c.remove-key.ensures.things) (subst (λ g. IsFair g c.args.queued.now (remove c.args.running.now.things c.args.number)) (sym none.1) over.kept)

pub returns-in_default-clause-answer : goal.returns-in_default-clause-answer
returns-in_default-clause-answer c =
    let none = c.in_default.ensures.none in
    let over = nobody c.args.fair.now c.args.queued.now c.args.running.now.things c.requires.fair c.args.number c.remove-key.result c.remove-key.ensures.value c.release.new.self c.release.ensures.gives_back none.0 c.release.ensures.settled in
    sym (ap number_in over.next)

pub returns-in_default-clause-ends : goal.returns-in_default-clause-ends
returns-in_default-clause-ends c =
    let none = c.in_default.ensures.none in
    let over = nobody c.args.fair.now c.args.queued.now c.args.running.now.things c.requires.fair c.args.number c.remove-key.result c.remove-key.ensures.value c.release.new.self c.release.ensures.gives_back none.0 c.release.ensures.settled in
    none_ends _ c.args.queued.now c.args.queued.now (remove c.args.running.now.things c.args.number) c.remove-key.new.self.things over.next refl c.remove-key.ensures.things

pub returns-in_default-clause-none : goal.returns-in_default-clause-none
returns-in_default-clause-none c =
    let none = c.in_default.ensures.none in
    let over = nobody c.args.fair.now c.args.queued.now c.args.running.now.things c.requires.fair c.args.number c.remove-key.result c.remove-key.ensures.value c.release.new.self c.release.ensures.gives_back none.0 c.release.ensures.settled in
    let fewer = len-fewer c.args.running.now.things c.args.number (is_there (get c.args.running.now.things c.args.number) c.remove-key.result c.remove-key.ensures.value) in
    let running = ap len c.remove-key.ensures.things in
    let free = ap (λ (g : Fair _ _). g.free) none.1 in
    (omega (arith, fewer, running), free ∙ over.free, refl)

pub returns-in_default-clause-asked : goal.returns-in_default-clause-asked
returns-in_default-clause-asked c =
    let none = c.in_default.ensures.none in
    let over = nobody c.args.fair.now c.args.queued.now c.args.running.now.things c.requires.fair c.args.number c.remove-key.result c.remove-key.ensures.value c.release.new.self c.release.ensures.gives_back none.0 c.release.ensures.settled in
    ap (λ (g : Fair _ _). g.next) none.1 ∙ over.last

-- ---- one starts
pub start_job-requires-clause-admitted : goal.start_job-requires-clause-admitted
start_job-requires-clause-admitted c =
    let one = admitted c.args.fair.now c.args.queued.now c.args.running.now.things c.requires.fair c.args.number c.remove-key.result c.remove-key.ensures.value c.release.new.self c.release.ensures.gives_back c.next_wake.new.self c.in-Some.next c.in-Some.ensures.some in
    admitted_job c.args.fair.now c.args.queued.now c.args.running.now.things c.requires.fair c.args.number c.remove-key.result c.remove-key.ensures.value c.release.new.self c.release.ensures.gives_back c.next_wake.new.self c.in-Some.next one

pub returns-clause-fair : goal.returns-clause-fair
returns-clause-fair c =
    let one = admitted c.args.fair.now c.args.queued.now c.args.running.now.things c.requires.fair c.args.number c.remove-key.result c.remove-key.ensures.value c.release.new.self c.release.ensures.gives_back c.next_wake.new.self c.in-Some.next c.in-Some.ensures.some in
    let begun = starts_now c.args.fair.now c.args.queued.now c.args.running.now.things c.requires.fair c.args.number c.remove-key.result c.remove-key.ensures.value c.release.new.self c.release.ensures.gives_back c.next_wake.new.self c.in-Some.next one
    c.start_job.new.fair c.start_job.new.queued c.remove-key.new.self c.start_job.new.running c.remove-key.ensures.things c.start_job.ensures.starts c.start_job.ensures.settled in
    begun.kept

pub returns-clause-answer : goal.returns-clause-answer
returns-clause-answer c =
    let one = admitted c.args.fair.now c.args.queued.now c.args.running.now.things c.requires.fair c.args.number c.remove-key.result c.remove-key.ensures.value c.release.new.self c.release.ensures.gives_back c.next_wake.new.self c.in-Some.next c.in-Some.ensures.some in
    sym (ap number_in one.next)

pub returns-clause-ends : goal.returns-clause-ends
returns-clause-ends c =
    let one = admitted c.args.fair.now c.args.queued.now c.args.running.now.things c.requires.fair c.args.number c.remove-key.result c.remove-key.ensures.value c.release.new.self c.release.ensures.gives_back c.next_wake.new.self c.in-Some.next c.in-Some.ensures.some in
    let begun = starts_now c.args.fair.now c.args.queued.now c.args.running.now.things c.requires.fair c.args.number c.remove-key.result c.remove-key.ensures.value c.release.new.self c.release.ensures.gives_back c.next_wake.new.self c.in-Some.next one
    c.start_job.new.fair c.start_job.new.queued c.remove-key.new.self c.start_job.new.running c.remove-key.ensures.things c.start_job.ensures.starts c.start_job.ensures.settled in
    one_ends _ (c.in-Some.next, submission_of one.job) c.args.queued.now c.start_job.new.queued (remove c.args.running.now.things c.args.number) c.start_job.new.running.things one.next begun.queued begun.running

pub returns-clause-asked : goal.returns-clause-asked
returns-clause-asked c =
    let one = admitted c.args.fair.now c.args.queued.now c.args.running.now.things c.requires.fair c.args.number c.remove-key.result c.remove-key.ensures.value c.release.new.self c.release.ensures.gives_back c.next_wake.new.self c.in-Some.next c.in-Some.ensures.some in
    let begun = starts_now c.args.fair.now c.args.queued.now c.args.running.now.things c.requires.fair c.args.number c.remove-key.result c.remove-key.ensures.value c.release.new.self c.release.ensures.gives_back c.next_wake.new.self c.in-Some.next one
    c.start_job.new.fair c.start_job.new.queued c.remove-key.new.self c.start_job.new.running c.remove-key.ensures.things c.start_job.ensures.starts c.start_job.ensures.settled in
    begun.last

pub returns-clause-room : goal.returns-clause-room
returns-clause-room c =
    let one = admitted c.args.fair.now c.args.queued.now c.args.running.now.things c.requires.fair c.args.number c.remove-key.result c.remove-key.ensures.value c.release.new.self c.release.ensures.gives_back c.next_wake.new.self c.in-Some.next c.in-Some.ensures.some in
    let begun = starts_now c.args.fair.now c.args.queued.now c.args.running.now.things c.requires.fair c.args.number c.remove-key.result c.remove-key.ensures.value c.release.new.self c.release.ensures.gives_back c.next_wake.new.self c.in-Some.next one
    c.start_job.new.fair c.start_job.new.queued c.remove-key.new.self c.start_job.new.running c.remove-key.ensures.things c.start_job.ensures.starts c.start_job.ensures.settled in
    let fewer = len-fewer c.args.queued.now c.in-Some.next (is_there (get c.args.queued.now c.in-Some.next) one.job one.there) in
    let queued = ap len begun.queued in
    let spare = (c.start_job.ensures.starts one.job one.number one.there one.stage).3 in
    omega (arith, fewer, queued, spare, c.remove-key.ensures.spare, c.requires.room)

pub returns-clause-some : goal.returns-clause-some
returns-clause-some c =
    let one = admitted c.args.fair.now c.args.queued.now c.args.running.now.things c.requires.fair c.args.number c.remove-key.result c.remove-key.ensures.value c.release.new.self c.release.ensures.gives_back c.next_wake.new.self c.in-Some.next c.in-Some.ensures.some in
    let begun = starts_now c.args.fair.now c.args.queued.now c.args.running.now.things c.requires.fair c.args.number c.remove-key.result c.remove-key.ensures.value c.release.new.self c.release.ensures.gives_back c.next_wake.new.self c.in-Some.next one
    c.start_job.new.fair c.start_job.new.queued c.remove-key.new.self c.start_job.new.running c.remove-key.ensures.things c.start_job.ensures.starts c.start_job.ensures.settled in
    let none = removed_none c.args.running.now.things c.args.number c.in-Some.next (c.requires.fair.tied.apart c.in-Some.next (is_there (get c.args.queued.now c.in-Some.next) one.job one.there)) in
    let fewer = len-fewer c.args.running.now.things c.args.number (is_there (get c.args.running.now.things c.args.number) c.remove-key.result c.remove-key.ensures.value) in
    let more = len-more (remove c.args.running.now.things c.args.number) c.in-Some.next one.job.key none in
    let running = ap len begun.running in
    let gone = len-fewer c.args.queued.now c.in-Some.next (is_there (get c.args.queued.now c.in-Some.next) one.job one.there) in
    let queued = ap len begun.queued in
    (omega (arith, fewer, more, running), begun.free, omega (arith, gone, queued))
