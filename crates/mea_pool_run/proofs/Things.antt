-- what stands under each name, after a change at one
use Rattle.std.proofs.Common.{◌≡◌, ℕ, ◌+◌, ◌<◌, ◌==◌, inl, inr, Bool, true, false, cond, Option, Some, None, is_some, refl, ap, sym, subst, ◌∙◌, arith}
use Rattle.std.specs.Option.{option_map}
use Rattle.std.specs.Ordering.{nat_cmp}
use Rattle.std.specs.FinMap.{FinMap, get, insert, remove}
use Rattle.std.proofs.lemmas.Bool.{cases_lt, eqb-true, eqb-false, eq-eqb, ne_eqb}
use Rattle.mea_base.proofs.Maps.{inside, not_both}
use Rattle.mea_base.proofs.NamedMaps.{same_named, get-seen}
use Rattle.mea_base.proofs.Totals.{get_inserted, get_removed}
use Rattle.mea_by_name.specs.ByName.{Names, seen}
use Rattle.mea_by_name.proofs.Own.{seen-remove}
use Rattle.mea_pool_core.specs.declared.lease_wait.LeaseWait.TheVariants as lease
use Rattle.mea_pool_run.specs.declared.thing.Thing.{Thing}
use Rattle.mea_pool_run.specs.declared.thing.Thing.TheVariants.{Ask, Wait, Held}
use Rattle.mea_pool_run.specs.PoolByName.{asks}
use Rattle.mea_pool_run.specs.Kept.{live_of, asked, IsGoing, AreBelow}
use Rattle.mea_pool_run.proofs.Linking.{At, put, put_none, IsSingle}

-- ---- names and numbers

-- what stands at a name already is put there
pub put_back : (at : At) (f : ℕ) (x : Option ℕ) → at f ≡ x → put at f x ≡ at
put_back at f x here = λ i g. by_test g (f == g) refl i
  where
    by_test : (g : ℕ) (b : Bool) → (f == g) ≡ b → cond b x (at g) ≡ at g
    by_test g true is = sym (ap at (sym (eqb-true f g is)) ∙ here)
    by_test g false is = refl

-- what is told of the thing under each name
module _ (told : Option Thing → Option ℕ) (things : Names Thing) where
  abbrev pub at_each : At
  at_each = λ q. told (get things q)

  pub at_inserted : (k : ℕ) (t : Thing) → ◌≡◌ {A = At} (λ q. told (get (insert things k t) q)) (put at_each k (told (Some t)))
  at_inserted k t = λ i q. one q i
    where
      by_test : (q : ℕ) (b : Bool) → told (cond b (Some t) (get things q)) ≡ cond b (told (Some t)) (told (get things q))
      by_test q true = refl
      by_test q false = refl

      one : (q : ℕ) → told (get (insert things k t) q) ≡ put at_each k (told (Some t)) q
      one q = ap told (get_inserted things k q t) ∙ by_test q (k == q)

  pub at_removed : (k : ℕ) → ◌≡◌ {A = At} (λ q. told (get (remove things k) q)) (put at_each k (told None))
  at_removed k = λ i q. one q i
    where
      by_test : (q : ℕ) (b : Bool) → told (cond b None (get things q)) ≡ cond b (told None) (told (get things q))
      by_test q true = refl
      by_test q false = refl

      one : (q : ℕ) → told (get (remove things k) q) ≡ put at_each k (told None) q
      one q = ap told (get_removed things k q) ∙ by_test q (k == q)

  -- another thing of which the same is told
  pub at_alike : (k : ℕ) (t : Thing) → told (get things k) ≡ told (Some t) → ◌≡◌ {A = At} (λ q. told (get (insert things k t) q)) at_each
  at_alike k t same = at_inserted k t ∙ put_back at_each k (told (Some t)) same

  -- a thing of which nothing is told goes
  pub at_without : (k : ℕ) → told (get things k) ≡ told None → ◌≡◌ {A = At} (λ q. told (get (remove things k) q)) at_each
  at_without k same = at_removed k ∙ put_back at_each k (told None) same

-- a thing goes, and another comes under a new name
module _ (told : Option Thing → Option ℕ) (nothing : told None ≡ None) (things : Names Thing) (f n : ℕ) (t : Thing) (fresh : get things n ≡ None) where
  none_here : told (get (remove things f) n) ≡ None
  none_here = ap told (get_removed things f n) ∙ by_test (f == n)
    where
      by_test : (b : Bool) → told (cond b None (get things n)) ≡ None
      by_test true = nothing
      by_test false = ap told fresh ∙ nothing

  -- nothing is told of the one that comes
  pub at_gone : told (Some t) ≡ None → ◌≡◌ {A = At} (λ q. told (get (insert (remove things f) n t) q)) (put (at_each told things) f None)
  at_gone silent = at_alike told (remove things f) n t (none_here ∙ sym silent) ∙ at_removed told things f ∙ ap (put (at_each told things) f) nothing

  -- nothing is told of the one that goes
  pub at_come : told (get things f) ≡ None → ◌≡◌ {A = At} (λ q. told (get (insert (remove things f) n t) q)) (put (at_each told things) n (told (Some t)))
  at_come silent = at_inserted told (remove things f) n t ∙ ap (λ (a : At). put a n (told (Some t))) (at_without told things f (silent ∙ sym nothing))

  -- nor of either
  pub at_still : told (get things f) ≡ None → told (Some t) ≡ None → ◌≡◌ {A = At} (λ q. told (get (insert (remove things f) n t) q)) (at_each told things)
  at_still silent silent_too = at_gone silent_too ∙ put_back (at_each told things) f None silent

-- ---- whether what stands there is going on

pub going_put : (things : Names Thing) (k : ℕ) (t : Thing) → ((f : ℕ) → IsGoing (get things f)) → IsGoing (Some t) → (f : ℕ) → IsGoing (get (insert things k t) f)
going_put things k t going new f = subst IsGoing (sym (get_inserted things k f t)) (by_test (k == f))
  where
    by_test : (b : Bool) → IsGoing (cond b (Some t) (get things f))
    by_test true = new
    by_test false = going f

pub going_gone : (things : Names Thing) (k : ℕ) → ((f : ℕ) → IsGoing (get things f)) → (f : ℕ) → IsGoing (get (remove things k) f)
going_gone things k going f = subst IsGoing (sym (get_removed things k f)) (by_test (k == f))
  where
    by_test : (b : Bool) → IsGoing (cond b None (get things f))
    by_test true = tt
    by_test false = going f

-- ---- names are below

pub below_gone : (things : Names Thing) (f : ℕ) (n : ℕ) → AreBelow things n → AreBelow (remove things f) n
below_gone things f n below k high = get_removed things f k ∙ by_test (f == k)
  where
    by_test : (b : Bool) → cond b None (get things k) ≡ None
    by_test true = refl
    by_test false = below k high

pub below_put : (things : Names Thing) (f : ℕ) (t : Thing) (n : ℕ) → AreBelow things n → f < n → AreBelow (insert things f t) n
below_put things f t n below low k high = get_inserted things f k t ∙ ap (λ b. cond b (Some t) (get things k)) (ne_eqb f k (λ same. let no : k < n = subst (λ j. j < n) same low in omega arith)) ∙ below k high

pub below_more : (things : Names Thing) (n : ℕ) → AreBelow things n → AreBelow things (n + 1)
below_more things n below k high = below k (omega arith)

pub below_there : (things : Names Thing) (f : ℕ) (t : Thing) (n : ℕ) → AreBelow things n → get things f ≡ Some t → f < n
below_there things f t n below is = elim (cases_lt f n) [
  | inl low ↦ low
  | inr high ↦ absurd (not_both (get things f) t (below f high) is)
]

-- after the line of number n
pub below_after : (things : Names Thing) (f : ℕ) (n : ℕ) → AreBelow things n → AreBelow (remove things f) (n + 1)
below_after things f n below = below_more (remove things f) n (below_gone things f n below)

pub below_moved : (things : Names Thing) (f : ℕ) (t : Thing) (n : ℕ) → AreBelow things n → AreBelow (insert (remove things f) n t) (n + 1)
below_moved things f t n below = below_put (remove things f) n t (n + 1) (below_after things f n below) (omega arith)

pub below_stays : (things : Names Thing) (f : ℕ) (t u : Thing) (n : ℕ) → get things f ≡ Some t → AreBelow things n → AreBelow (insert things f u) n
below_stays things f t u n is below = below_put things f u n below (below_there things f t n below is)

-- ---- what is seen by name

alike : (g h : FinMap nat_cmp ℕ) (o : Option Thing) → ((m : ℕ) → asked o ≡ Some m → is_some (get h m) ≡ is_some (get g m)) → option_map (live_of h) o ≡ option_map (live_of g) o
alike g h None same = refl
alike g h (Some (Ask lease.New)) same = refl
alike g h (Some (Ask (lease.Queued m))) same = ap (λ b. Some (asks b)) (same m refl)
alike g h (Some (Ask lease.Done)) same = refl
alike g h (Some (Ask lease.Refused)) same = refl
alike g h (Some (Wait wait)) same = refl
alike g h (Some (Held l)) same = refl

-- grants that no thing knows of
pub seen_same : (g h : FinMap nat_cmp ℕ) (things : Names Thing) → ((q m : ℕ) → asked (get things q) ≡ Some m → is_some (get h m) ≡ is_some (get g m)) → seen (live_of h) things ≡ seen (live_of g) things
seen_same g h things same = same_named _ _ (λ q.
    get-seen (λ k x. live_of h x) things q ∙ alike g h (get things q) (same q) ∙ sym (get-seen (λ k x. live_of g x) things q))

-- the one that was granted has got its lease, or is given up
pub seen_took : (g : FinMap nat_cmp ℕ) (things : Names Thing) (f n : ℕ) → IsSingle (λ q. asked (get things q)) → asked (get things f) ≡ Some n
    → seen (live_of (remove g n)) (remove things f) ≡ remove (seen (live_of g) things) f
seen_took g things f n single here = seen_same g (remove g n) (remove things f) same ∙ seen-remove (live_of g) things f
  where
    same : (q m : ℕ) → asked (get (remove things f) q) ≡ Some m → is_some (get (remove g n) m) ≡ is_some (get g m)
    same q m is =
        let there = put_none (λ q. asked (get things q)) f q m (sym (ap (λ (a : At). a q) (at_removed asked things f)) ∙ is) in
        ap is_some (get_removed g n m ∙ ap (λ b. cond b None (get g m)) (ne_eqb n m (λ alike. eqb-false f q there.1 (single f q n here (there.0 ∙ ap (λ k. Some k) (sym alike))))))

-- one is granted
pub seen_granted : (g : FinMap nat_cmp ℕ) (things : Names Thing) (f n : ℕ) → IsSingle (λ q. asked (get things q)) → asked (get things f) ≡ Some n
    → seen (live_of (insert g n 1)) things ≡ insert (seen (live_of g) things) f (asks true)
seen_granted g things f n single here = same_named _ _ (λ q.
    get-seen (λ k x. live_of (insert g n 1) x) things q ∙ by_test q (f == q) refl ∙ ap (cond (f == q) (Some (asks true))) (sym (get-seen (λ k x. live_of g x) things q)) ∙ sym (get_inserted (seen (live_of g) things) f q (asks true)))
  where
    is_asking : (o : Option Thing) → asked o ≡ Some n → option_map (live_of (insert g n 1)) o ≡ Some (asks true)
    is_asking None is = absurd (cc)
    is_asking (Some (Ask lease.New)) is = absurd (cc)
    is_asking (Some (Ask (lease.Queued m))) is =
        ap (λ b. Some (asks b)) (ap is_some (get_inserted g n m 1 ∙ ap (λ b. cond b (Some 1) (get g m)) (eq-eqb n m (sym (inside is)))))
    is_asking (Some (Ask lease.Done)) is = absurd (cc)
    is_asking (Some (Ask lease.Refused)) is = absurd (cc)
    is_asking (Some (Wait wait)) is = absurd (cc)
    is_asking (Some (Held l)) is = absurd (cc)

    by_test : (q : ℕ) (b : Bool) → (f == q) ≡ b → option_map (live_of (insert g n 1)) (get things q) ≡ cond b (Some (asks true)) (option_map (live_of g) (get things q))
    by_test q true is = is_asking (get things q) (ap (λ k. asked (get things k)) (sym (eqb-true f q is)) ∙ here)
    by_test q false is = alike g (insert g n 1) (get things q) (λ m there.
        ap is_some (get_inserted g n m 1 ∙ ap (λ b. cond b (Some 1) (get g m)) (ne_eqb n m (λ same. eqb-false f q is (single f q n here (there ∙ ap (λ k. Some k) (sym same)))))))
