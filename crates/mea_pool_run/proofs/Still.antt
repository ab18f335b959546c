-- events that change no core, and those that change nothing
use Rattle.std.proofs.Common.{◌≡◌, ℕ, Option, Some, None, refl, ap, sym, subst, ◌∙◌}
use Rattle.std.specs.FinMap.{get, insert}
use Rattle.std.specs.Option.{option_map}
use Rattle.mea_base.proofs.NamedMaps.{get-seen}
use Rattle.mea_by_name.specs.declared.named_waker.NamedWaker.{NamedWaker}
use Rattle.mea_by_name.specs.ByName.{Names}
use Rattle.mea_by_name.proofs.Own.{seen-at, seen-insert}
use Rattle.mea_family.specs.declared.answer.Answer.TheVariants as answers
use Rattle.mea_pool_core.specs.declared.drain_wait.DrainWait.TheVariants as drain
use Rattle.mea_pool_core.specs.declared.lease_wait.LeaseWait.TheVariants as lease
use Rattle.mea_pool_core.specs.Pool.{Pool, is_drained}
use Rattle.mea_pool_run.specs.declared.reply.PoolReply.{PoolReply}
use Rattle.mea_pool_run.specs.declared.reply.PoolReply.TheVariants.{Told, Unknown}
use Rattle.mea_pool_run.specs.declared.thing.Thing.{Thing}
use Rattle.mea_pool_run.specs.declared.thing.Thing.TheVariants.{Ask, Wait, Held}
use Rattle.mea_pool_run.specs.PoolByName.{PoolByName, Outcome, quietly, made, poll_of, end_of, use_of, back_of}
use Rattle.mea_pool_run.specs.Kept.{live_of, pool_by_name, asked, awaited, held, IsGoing, IsNew, AsksStand, LeasesStand, WaitsStand, Keeps, Stands, Goes, wakers_of}
use Rattle.mea_pool_run.proofs.Linking.{At}
use Rattle.mea_pool_run.proofs.Polls.{pool_path}
use Rattle.mea_pool_run.proofs.Things.{at_alike, going_put}

-- no wait stands there, and no lease
abbrev pub IsNoWait : Option Thing → Type 0
IsNoWait (Some (Ask wait)) = ⊥
IsNoWait (Some (Wait wait)) = ⊥
IsNoWait _ = Unit {0}

abbrev pub IsNoLease : Option Thing → Type 0
IsNoLease (Some (Held lease)) = ⊥
IsNoLease _ = Unit {0}

module _ (p : Pool ℕ NamedWaker) (things : Names Thing) (stands : Stands p things) where
  abbrev s : PoolByName
  s = pool_by_name p things

  pub nothing_changes : (o : Outcome) (reply : PoolReply) → o ≡ quietly s reply → Goes o p things reply
  nothing_changes o reply is = subst (λ (x : Outcome). Goes x p things reply) (sym is) (record {
    pool = refl;
    replied = refl;
    woken = ap wakers_of stands.quiet;
    keeps = stands.keeps;
  })

  -- ---- a name that is not one of a thing of its kind

  seen_there : (f : ℕ) → get s.things f ≡ option_map (live_of p.granted) (get things f)
  seen_there f = get-seen (λ k x. live_of p.granted x) things f

  pub poll_unknown : (f n w : ℕ) → IsNoWait (get things f) → Goes (poll_of (get s.things f) s n f w) p things Unknown
  poll_unknown f n w none = nothing_changes _ Unknown (ap (λ x. poll_of x s n f w) (seen_there f) ∙ by_thing (get things f) none)
    where
      by_thing : (o : Option Thing) → IsNoWait o → poll_of (option_map (live_of p.granted) o) s n f w ≡ quietly s Unknown
      by_thing None none = refl
      by_thing (Some (Held l)) none = refl
      by_thing (Some (Ask wait)) none = absurd none
      by_thing (Some (Wait wait)) none = absurd none

  pub end_unknown : (f : ℕ) → IsNoWait (get things f) → Goes (end_of (get s.things f) s f) p things Unknown
  end_unknown f none = nothing_changes _ Unknown (ap (λ x. end_of x s f) (seen_there f) ∙ by_thing (get things f) none)
    where
      by_thing : (o : Option Thing) → IsNoWait o → end_of (option_map (live_of p.granted) o) s f ≡ quietly s Unknown
      by_thing None none = refl
      by_thing (Some (Held l)) none = refl
      by_thing (Some (Ask wait)) none = absurd none
      by_thing (Some (Wait wait)) none = absurd none

  pub use_unknown : (l v : ℕ) → IsNoLease (get things l) → Goes (use_of (get s.things l) s l v) p things Unknown
  use_unknown l v none = nothing_changes _ Unknown (ap (λ x. use_of x s l v) (seen_there l) ∙ by_thing (get things l) none)
    where
      by_thing : (o : Option Thing) → IsNoLease o → use_of (option_map (live_of p.granted) o) s l v ≡ quietly s Unknown
      by_thing None none = refl
      by_thing (Some (Held lease)) none = absurd none
      by_thing (Some (Ask wait)) none = refl
      by_thing (Some (Wait wait)) none = refl

  pub back_unknown : (l : ℕ) → IsNoLease (get things l) → Goes (back_of (get s.things l) s l) p things Unknown
  back_unknown l none = nothing_changes _ Unknown (ap (λ x. back_of x s l) (seen_there l) ∙ by_thing (get things l) none)
    where
      by_thing : (o : Option Thing) → IsNoLease o → back_of (option_map (live_of p.granted) o) s l ≡ quietly s Unknown
      by_thing None none = refl
      by_thing (Some (Held lease)) none = absurd none
      by_thing (Some (Ask wait)) none = refl
      by_thing (Some (Wait wait)) none = refl

  -- ---- events that change no core

  -- another thing that has the same number or slot
  alike : (things' : Names Thing) → ((f : ℕ) → IsGoing (get things' f))
      → ◌≡◌ {A = At} (λ q. asked (get things' q)) (λ q. asked (get things q)) → ◌≡◌ {A = At} (λ q. held (get things' q)) (λ q. held (get things q))
      → ◌≡◌ {A = At} (λ q. awaited (get things' q)) (λ q. awaited (get things q)) → Keeps p things'
  alike things' going same_asked same_held same_awaited = record {
    going = going;
    asking = subst (λ (at : At). AsksStand at p.waiting p.granted p.cut p.draining) (sym same_asked) stands.keeps.asking;
    lending = subst (λ (at : At). LeasesStand at p.lent) (sym same_held) stands.keeps.lending;
    ending = subst (λ (at : At). WaitsStand at p.drains p.told (is_drained p)) (sym same_awaited) stands.keeps.ending;
  }

  pub makes : (n : ℕ) (t : Thing) → get things n ≡ None → IsNew t → Goes (made s n (live_of p.granted t)) p (insert things n t) (Told answers.Made)
  makes n t fresh new = record {
    pool = pool_path _ _ refl refl refl (seen-insert (live_of p.granted) things n t) refl refl refl;
    replied = refl;
    woken = ap wakers_of stands.quiet;
    keeps = alike (insert things n t) (going_put things n t stands.keeps.going (going t new))
        (at_alike asked things n t (ap asked fresh ∙ sym (none_asked t new))) (at_alike held things n t (ap held fresh ∙ sym (none_held t new))) (at_alike awaited things n t (ap awaited fresh ∙ sym (none_awaited t new)));
  }
    where
      going : (t : Thing) → IsNew t → IsGoing (Some t)
      going (Ask lease.New) new = tt
      going (Wait drain.New) new = tt
      going (Ask (lease.Queued m)) new = absurd new
      going (Ask lease.Done) new = absurd new
      going (Ask lease.Refused) new = absurd new
      going (Wait (drain.Listed m)) new = absurd new
      going (Wait drain.Done) new = absurd new
      going (Held l) new = absurd new

      none_asked : (t : Thing) → IsNew t → asked (Some t) ≡ None
      none_asked (Ask lease.New) new = refl
      none_asked (Wait wait) new = refl
      none_asked (Ask (lease.Queued m)) new = absurd new
      none_asked (Ask lease.Done) new = absurd new
      none_asked (Ask lease.Refused) new = absurd new
      none_asked (Held l) new = absurd new

      none_awaited : (t : Thing) → IsNew t → awaited (Some t) ≡ None
      none_awaited (Ask wait) new = refl
      none_awaited (Wait drain.New) new = refl
      none_awaited (Wait (drain.Listed m)) new = absurd new
      none_awaited (Wait drain.Done) new = absurd new
      none_awaited (Held l) new = absurd new

      none_held : (t : Thing) → IsNew t → held (Some t) ≡ None
      none_held (Ask wait) new = refl
      none_held (Wait wait) new = refl
      none_held (Held l) new = absurd new

  pub sets : (l v : ℕ) (lease : ℕ × ℕ) → get things l ≡ Some (Held lease)
      → Goes (use_of (get s.things l) s l v) p (insert things l (Held (lease.0, v))) (Told answers.Done)
  sets l v lease is =
      subst (λ (o : Outcome). Goes o p (insert things l (Held (lease.0, v))) (Told answers.Done)) (sym (ap (λ x. use_of x s l v) (seen-at (live_of p.granted) things l (Held lease) is))) (record {
        pool = pool_path _ _ refl refl refl (seen-insert (live_of p.granted) things l (Held (lease.0, v))) refl refl refl;
        replied = refl;
        woken = ap wakers_of stands.quiet;
        keeps = alike (insert things l (Held (lease.0, v))) (going_put things l (Held (lease.0, v)) stands.keeps.going tt)
            (at_alike asked things l (Held (lease.0, v)) (ap asked is)) (at_alike held things l (Held (lease.0, v)) (ap held is)) (at_alike awaited things l (Held (lease.0, v)) (ap awaited is));
      })
