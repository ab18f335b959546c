use Rattle.std.proofs.Common.{◌≡◌, ℕ, ◌+◌, ◌*◌, ◌<◌, ◌≤◌, ◌++◌, Bool, true, false, [], length, ap, ◌∙◌, arith, if◌then◌else◌}
use Rattle.mea_family.specs.declared.answer.Answer.{Answer}
use Rattle.mea_family.specs.Family.{is_pending}
use Rattle.mea_hall.specs.World.{Play, step}
use Rattle.mea_run.proofs.Counts.{most_ready}
use Rattle.mea_run.proofs.making.play.Goals as goal

pub drain-requires : goal.drain-requires
drain-requires c = most_ready c.args.hall.now c.act.new.self c.args.event.now c.in_ok-answer.answer c.registered-registered.result
    c.in_ok-answer.ensures.played c.requires.quiet c.registered-registered.ensures.count

-- one more event, with at most one reply `pending`
pendings_fit : (b : Bool) (pending more events after : ℕ) → more ≡ (if b then 1 else 0) → pending ≤ events → after ≡ events + 1 → pending + more ≤ after
pendings_fit true pending more events after is fits next = omega (arith, is)
pendings_fit false pending more events after is fits next = omega (arith, is)

-- and with at most so many wakes
wakes_fit : (wakes more most events after : ℕ) → wakes ≤ 4194304 * events → more ≤ most → most ≤ events → events < 4194304 → after ≡ events + 1
    → wakes + more ≤ 4194304 * after
wakes_fit wakes more most events after fits few least small next = omega arith

-- all that the call says, term by term: a search of these goals takes minutes
pub returns : goal.returns
returns c =
    let played = c.in_ok-answer.ensures.played in
    let told = (step c.args.hall.now.world c.args.hall.now.events c.args.event.now).reply in
    let events : c.drain.new.hall.events ≡ c.args.hall.now.events + 1 = ap (λ (h : Play). h.events) c.drain.ensures.hall ∙ played.counted in
    record {
      reply = played.replied;
      allowed = c.in_ok-answer.ensures.allowed;
      hall = c.drain.ensures.hall ∙ (λ j. record { world = played.world j; wakes = []; events = played.counted j });
      pending = ap (λ n. c.args.counts.now.pending + n) (c.one_if_pending.ensures ∙ ap (λ (a : Answer). if is_pending a then 1 else 0) played.replied);
      wakes = ap (λ n. c.args.counts.now.wakes + n) (c.drain.ensures.count ∙ ap length (played.woken ∙ ap (λ ws. ws ++ told.1) c.requires.quiet));
      pending_fits = pendings_fit (is_pending c.in_ok-answer.answer) _ _ _ _ c.one_if_pending.ensures c.requires.pending_fits events;
      wakes_fit = wakes_fit _ _ c.registered-registered.result _ _ c.requires.wakes_fit c.drain.ensures.few c.registered-registered.ensures.few c.requires.few events;
      refused = tt;
    }
