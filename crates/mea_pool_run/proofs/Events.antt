-- an event whose wakers were taken
use Rattle.std.proofs.Common.{◌≡◌, ℕ, ◌++◌, List, [], Result, Ok, Err, OnOk, refl, sym, subst, ◌∙◌}
use Rattle.std.proofs.lemmas.Result.{on_ok_weaker}
use Rattle.mea_by_name.specs.declared.named_waker.NamedWaker.{NamedWaker}
use Rattle.mea_by_name.specs.ByName.{Names}
use Rattle.mea_pool_core.specs.Pool.{Pool}
use Rattle.mea_pool_run.specs.declared.reply.PoolReply.{PoolReply}
use Rattle.mea_pool_run.specs.declared.thing.Thing.{Thing}
use Rattle.mea_pool_run.specs.PoolByName.{Outcome}
use Rattle.mea_pool_run.specs.Kept.{pool_by_name, wakers_of, Stands, AreBelow, Goes}
use Rattle.mea_pool_run.specs.Reply.{text_of}

-- it holds whatever the result is
pub whatever : {T E P : Type 0} (r : Result T E) → P → OnOk r P
whatever (Ok x) p = p
whatever (Err e) p = tt

module _ (o : Outcome) (p p' : Pool ℕ NamedWaker) (things things' : Names Thing) (reply : PoolReply) (goes : Goes o p things reply) (same : things' ≡ things) (taken : p' ≡ record p { wakes = [] }) where
  pub next_pool : pool_by_name p' things' ≡ o.pool
  next_pool = (λ i. pool_by_name (taken i) (same i)) ∙ goes.pool

  pub next_stands : Stands p' things'
  next_stands =
      subst (λ (ts : Names Thing). Stands p' ts) (sym same)
      (subst (λ (q : Pool ℕ NamedWaker). Stands q things) (sym taken) (record {
        keeps = record { going = goes.keeps.going; asking = goes.keeps.asking; lending = goes.keeps.lending; ending = goes.keeps.ending };
        quiet = refl;
      }))

-- the same outcome, of what came to be
pub goes_as : (o : Outcome) (p p' : Pool ℕ NamedWaker) (things things' : Names Thing) (reply reply' : PoolReply) → p' ≡ p → things' ≡ things → reply' ≡ reply → Goes o p things reply → Goes o p' things' reply'
goes_as o p p' things things' reply reply' pool same replied goes =
    subst (λ (q : Pool ℕ NamedWaker). Goes o q things' reply') (sym pool)
    (subst (λ (ts : Names Thing). Goes o p ts reply') (sym same)
    (subst (λ (r : PoolReply). Goes o p things r) (sym replied) goes))

pub below_as : (things things' : Names Thing) (n : ℕ) → things' ≡ things → AreBelow things n → AreBelow things' n
below_as things things' n same below = subst (λ (ts : Names Thing). AreBelow ts n) (sym same) below

-- its reply was put
pub next_text : {T E : Type 0} (o : Outcome) (p : Pool ℕ NamedWaker) (things : Names Thing) (reply : PoolReply) (r : Result T E) (old new ws : List ℕ) → Goes o p things reply → ws ≡ wakers_of p.wakes
    → OnOk r (new ≡ old ++ text_of reply ws) → OnOk r (new ≡ old ++ text_of o.reply o.wakes)
next_text o p things reply r old new ws goes taken put =
    on_ok_weaker r (λ told. told ∙ (λ i. old ++ text_of (goes.replied i) ((taken ∙ goes.woken) i))) put
