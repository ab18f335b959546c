-- what the waits and leases of a pool keep to, at each change
use Rattle.std.proofs.Common.{◌≡◌, ◌≢◌, ℕ, ◌<◌, ◌==◌, ◌++◌, inl, inr, Bool, true, false, cond, List, [], ◌∷◌, Option, Some, None, is_some, set, length, refl, ap, sym, subst, ◌∙◌, if◌then◌else◌}
use Rattle.std.specs.Option.{IsSome}
use Rattle.std.specs.Ordering.{nat_cmp}
use Rattle.std.specs.FinMap.{FinMap, get, insert, remove}
use Rattle.std.proofs.lemmas.Bool.{eqb-true, eqb-false, eq-eqb, ne_eqb}
use Rattle.std.proofs.lemmas.List.{get_or-set_same, get_or-set_other}
use Rattle.mea_base.proofs.Maps.{is_absent, is_there, not_both}
use Rattle.mea_base.proofs.Totals.{get_inserted, get_removed}
use Rattle.mea_by_name.specs.declared.named_waker.NamedWaker.{NamedWaker}
use Rattle.mea_lock_core.specs.Condvar.{waker_under, with_waker, without_wait, notifying}
use Rattle.mea_pool_core.proofs.Orders.{rewaked_some, last_some, fewer_wait, still_none}
use Rattle.mea_pool_core.specs.Places.{cutting}
use Rattle.mea_pool_core.specs.Shelf.{is_lent}
use Rattle.mea_pool_run.specs.Kept.{Numbered, Linked, IsMet, AsksStand, LeasesStand, IsTold, WaitsStand}
use Rattle.mea_pool_run.proofs.Linking.{put, pushed, left, rewaked, cleared, popped, put_some, put_none, single_some, single_none}

-- ---- what is not there

true_not_false : (b : Bool) → b ≡ false → b ≡ true → ⊥
true_not_false b is_false is_true = absurd (cc)

other_removed : {X : Type 0} (m : FinMap nat_cmp X) (n k : ℕ) → k ≢ n → get (remove m n) k ≡ get m k
other_removed m n k differs = get_removed m n k ∙ ap (λ b. cond b None (get m k)) (ne_eqb n k (λ same. differs (sym same)))

removed_none : {X : Type 0} (m : FinMap nat_cmp X) (n k : ℕ) → get m k ≡ None → get (remove m n) k ≡ None
removed_none m n k none = get_removed m n k ∙ by_test (n == k)
  where
    by_test : (b : Bool) → cond b None (get m k) ≡ None
    by_test true = refl
    by_test false = none

pub without_none : (q : Numbered) (n : ℕ) → waker_under q n ≡ None → without_wait q n ≡ q
without_none [] n none = refl
without_none (e ∷ q) n none = by_test (e.0 == n) none (without_none q n)
  where
    by_test : (b : Bool) → cond b (Some e.1) (waker_under q n) ≡ None → (waker_under q n ≡ None → without_wait q n ≡ q) → (if b then without_wait q n else e ∷ without_wait q n) ≡ e ∷ q
    by_test true none rest = absurd (cc)
    by_test false none rest = ap (λ (es : Numbered). e ∷ es) (rest none)

nobody_left : (q : Numbered) (n : ℕ) → q ≡ [] → waker_under q n ≡ None
nobody_left q n none = ap (λ (r : Numbered). waker_under r n) none

-- ---- the waits for a lease

one_there : (granted : FinMap nat_cmp ℕ) (n m : ℕ) → get granted m ≡ Some 1 → get (insert granted n 1) m ≡ Some 1
one_there granted n m is = get_inserted granted n m 1 ∙ by_test (n == m)
  where
    by_test : (b : Bool) → cond b (Some 1) (get granted m) ≡ Some 1
    by_test true = refl
    by_test false = is

one_put : (m : FinMap nat_cmp ℕ) (n : ℕ) → get (insert m n 1) n ≡ Some 1
one_put m n = get_inserted m n n 1 ∙ ap (λ b. cond b (Some 1) (get m n)) (eq-eqb n n refl)

cut_stays : (cut : FinMap nat_cmp ℕ) (q : Numbered) (m : ℕ) → get cut m ≡ Some 1 → get (cutting cut q) m ≡ Some 1
cut_stays cut [] m is = is
cut_stays cut (e ∷ q) m is = cut_stays (insert cut e.0 1) q m (one_there cut e.0 m is)

cut_there : (cut : FinMap nat_cmp ℕ) (q : Numbered) (m : ℕ) → IsSome (waker_under q m) → get (cutting cut q) m ≡ Some 1
cut_there cut [] m some = absurd (cc)
cut_there cut (e ∷ q) m some = by_test (e.0 == m) refl (cut_there (insert cut e.0 1) q m) some
  where
    by_test : (b : Bool) → (e.0 == m) ≡ b → (IsSome (waker_under q m) → get (cutting (insert cut e.0 1) q) m ≡ Some 1) → IsSome (cond b (Some e.1) (waker_under q m)) → get (cutting (insert cut e.0 1) q) m ≡ Some 1
    by_test true is rest here = cut_stays (insert cut e.0 1) q m (subst (λ k. get (insert cut e.0 1) k ≡ Some 1) (eqb-true e.0 m is) (one_put cut e.0))
    by_test false is rest here = rest here

module _ (at : ℕ → Option ℕ) (waiting : Numbered) (granted cut : FinMap nat_cmp ℕ) (draining : Bool) (stand : AsksStand at waiting granted cut draining) where
  granted_waits_not : (n : ℕ) → get granted n ≡ Some 1 → waker_under waiting n ≡ None
  granted_waits_not n is = is_absent (waker_under waiting n) (λ some. not_both (get granted n) 1 (stand.ungranted n some) is)

  -- one that was granted has got its lease, or is given up
  pub took : (f n : ℕ) → at f ≡ Some n → get granted n ≡ Some 1 → AsksStand (put at f None) waiting (remove granted n) cut draining
  took f n here is = record {
    linked = subst (λ (q : Numbered). Linked (put at f None) q (IsMet (remove granted n) cut draining)) (without_none waiting n (granted_waits_not n is))
        (left at waiting stand.linked f n here (λ m differs met. elim met [
          | inl one ↦ inl (other_removed granted n m differs ∙ one)
          | inr c ↦ inr (c.0, c.1, removed_none granted n m c.2)
        ]));
    ungranted = λ m some. removed_none granted n m (stand.ungranted m some);
    all_cut = stand.all_cut;
  }

  -- one more waits
  pub waits_last : (f n w : ℕ) → draining ≡ false → at f ≡ None → waker_under waiting n ≡ None → get granted n ≡ None
      → AsksStand (put at f (Some n)) (waiting ++ (n, record { name = f; waker = w }) ∷ []) granted cut draining
  waits_last f n w undrained none fresh ungranted = record {
    linked = pushed at waiting stand.linked f n w none fresh (λ met. elim met [
      | inl one ↦ not_both (get granted n) 1 ungranted one
      | inr c ↦ true_not_false draining undrained c.0
    ]);
    ungranted = λ m some. elim (last_some waiting n m _ some) [
      | inl there ↦ stand.ungranted m there
      | inr same ↦ subst (λ k. get granted k ≡ None) (sym same) ungranted
    ];
    all_cut = λ closed. absurd (true_not_false draining undrained closed);
  }

  pub rewaked_waits : (f n w : ℕ) → at f ≡ Some n → AsksStand at (with_waker waiting n (record { name = f; waker = w })) granted cut draining
  rewaked_waits f n w here = record {
    linked = rewaked at waiting stand.linked f n w here;
    ungranted = λ m some. stand.ungranted m (sym (rewaked_some waiting n m _) ∙ some);
    all_cut = λ closed. ap (λ (q : Numbered). with_waker q n (record { name = f; waker = w })) (stand.all_cut closed);
  }

  -- one that was cut is gone
  pub refused : (f n : ℕ) → at f ≡ Some n → draining ≡ true → AsksStand (put at f None) waiting granted (remove cut n) draining
  refused f n here closed = record {
    linked = subst (λ (q : Numbered). Linked (put at f None) q (IsMet granted (remove cut n) draining)) (without_none waiting n (nobody_left waiting n (stand.all_cut closed)))
        (left at waiting stand.linked f n here (λ m differs met. elim met [
          | inl one ↦ inl one
          | inr c ↦ inr (c.0, other_removed cut n m differs ∙ c.1, c.2)
        ]));
    ungranted = stand.ungranted;
    all_cut = stand.all_cut;
  }

  -- one that waits is given up
  pub leaves : (f n : ℕ) → at f ≡ Some n → AsksStand (put at f None) (without_wait waiting n) granted cut draining
  leaves f n here = record {
    linked = left at waiting stand.linked f n here (λ m differs met. met);
    ungranted = λ m some. stand.ungranted m (fewer_wait waiting n m some);
    all_cut = λ closed. ap (λ (q : Numbered). without_wait q n) (stand.all_cut closed);
  }

  -- the pool drains
  pub all_leave : draining ≡ false → AsksStand at [] granted (cutting cut waiting) true
  all_leave undrained = record {
    linked = cleared at waiting stand.linked
        (λ m some. inr (refl, cut_there cut waiting m some, stand.ungranted m some))
        (λ m met. elim met [
          | inl one ↦ inl one
          | inr c ↦ absurd (true_not_false draining undrained c.0)
        ]);
    ungranted = λ m some. absurd (cc);
    all_cut = λ closed. refl;
  }

-- the first that waits is granted a place
pub first_granted : (at : ℕ → Option ℕ) (e : ℕ × NamedWaker) (q : Numbered) (granted cut : FinMap nat_cmp ℕ) (draining : Bool)
    → AsksStand at (e ∷ q) granted cut draining → AsksStand at q (insert granted e.0 1) cut draining
first_granted at e q granted cut draining stand = record {
  linked = popped at e q stand.linked (inl (one_put granted e.0)) (λ m met. elim met [
    | inl one ↦ inl (one_there granted e.0 m one)
    | inr c ↦ absurd (let no : ◌≡◌ {A = Numbered} (e ∷ q) [] = stand.all_cut c.0 in cc)
  ]);
  ungranted = λ m some. still_none granted e q m stand.linked.apart.0 some (stand.ungranted m (wider m some));
  all_cut = λ closed. absurd (let no : ◌≡◌ {A = Numbered} (e ∷ q) [] = stand.all_cut closed in cc);
}
  where
    wider : (m : ℕ) → IsSome (waker_under q m) → IsSome (waker_under (e ∷ q) m)
    wider m some = by_test (e.0 == m)
      where
        by_test : (b : Bool) → IsSome (cond b (Some e.1) (waker_under q m))
        by_test true = refl
        by_test false = some

-- ---- the waits for the end of the drain

put_there : {X : Type 0} (m : FinMap nat_cmp X) (n k : ℕ) (x : X) → IsSome (get m k) → IsSome (get (insert m n x) k)
put_there m n k x some = ap is_some (get_inserted m n k x) ∙ by_test (n == k)
  where
    by_test : (b : Bool) → is_some (cond b (Some x) (get m k)) ≡ true
    by_test true = refl
    by_test false = some

told_stays : (told : FinMap nat_cmp Bool) (q : Numbered) (m : ℕ) → IsSome (get told m) → IsSome (get (notifying told q) m)
told_stays told [] m some = some
told_stays told (e ∷ q) m some = told_stays (insert told e.0 false) q m (put_there told e.0 m false some)

told_there : (told : FinMap nat_cmp Bool) (q : Numbered) (m : ℕ) → IsSome (waker_under q m) → IsSome (get (notifying told q) m)
told_there told [] m some = absurd (cc)
told_there told (e ∷ q) m some = by_test (e.0 == m) refl (told_there (insert told e.0 false) q m) some
  where
    by_test : (b : Bool) → (e.0 == m) ≡ b → (IsSome (waker_under q m) → IsSome (get (notifying (insert told e.0 false) q) m)) → IsSome (cond b (Some e.1) (waker_under q m)) → IsSome (get (notifying (insert told e.0 false) q) m)
    by_test true is rest here = told_stays (insert told e.0 false) q m (is_there _ false (get_inserted told e.0 m false ∙ ap (λ b. cond b (Some false) (get told m)) is))
    by_test false is rest here = rest here

module _ (at : ℕ → Option ℕ) (drains : Numbered) (told : FinMap nat_cmp Bool) (drained : Bool) (stand : WaitsStand at drains told drained) where
  -- one that was told is gone
  pub ready : (f n : ℕ) → at f ≡ Some n → drained ≡ true → WaitsStand (put at f None) drains (remove told n) drained
  ready f n here over = record {
    linked = subst (λ (q : Numbered). Linked (put at f None) q (IsTold (remove told n) drained)) (without_none drains n (nobody_left drains n (stand.all_told over)))
        (left at drains stand.linked f n here (λ m differs met. (met.0, ap is_some (other_removed told n m differs) ∙ met.1)));
    all_told = stand.all_told;
  }

  pub lists_last : (f n w : ℕ) → drained ≡ false → at f ≡ None → waker_under drains n ≡ None → WaitsStand (put at f (Some n)) (drains ++ (n, record { name = f; waker = w }) ∷ []) told drained
  lists_last f n w undrained none fresh = record {
    linked = pushed at drains stand.linked f n w none fresh (λ met. true_not_false drained undrained met.0);
    all_told = λ over. absurd (true_not_false drained undrained over);
  }

  pub rewaked_lists : (f n w : ℕ) → drained ≡ false → at f ≡ Some n → WaitsStand at (with_waker drains n (record { name = f; waker = w })) told drained
  rewaked_lists f n w undrained here = record {
    linked = rewaked at drains stand.linked f n w here;
    all_told = λ over. absurd (true_not_false drained undrained over);
  }

  pub leaves_list : (f n : ℕ) → drained ≡ false → at f ≡ Some n → WaitsStand (put at f None) (without_wait drains n) told drained
  leaves_list f n undrained here = record {
    linked = left at drains stand.linked f n here (λ m differs met. met);
    all_told = λ over. absurd (true_not_false drained undrained over);
  }

  -- all are told
  pub all_hear : WaitsStand at [] (notifying told drains) true
  all_hear = record {
    linked = cleared at drains stand.linked (λ m some. (refl, told_there told drains m some)) (λ m met. (refl, told_stays told drains m met.1));
    all_told = λ over. refl;
  }

-- ---- the leases

module _ (at : ℕ → Option ℕ) (lent : List Bool) (stand : LeasesStand at lent) where
  pub lends : (f slot : ℕ) → slot < length lent → is_lent lent slot ≡ false → LeasesStand (put at f (Some slot)) (set lent slot true)
  lends f slot within free = record {
    out = λ g s is. elim (put_some at f slot g s is) [
      | inl here ↦ subst (λ k. is_lent (set lent slot true) k ≡ true) here.1 (get_or-set_same lent slot true false within)
      | inr there ↦ get_or-set_other lent slot s true false (λ same. true_not_false (is_lent lent slot) free (ap (is_lent lent) (sym same) ∙ stand.out g s there)) ∙ stand.out g s there
    ];
    once = single_some at f slot stand.once (λ g is. true_not_false (is_lent lent slot) free (stand.out g slot is));
  }

  pub comes_back : (f slot : ℕ) → at f ≡ Some slot → LeasesStand (put at f None) (set lent slot false)
  comes_back f slot here = record {
    out = λ g s is.
        let there = put_none at f g s is in
        get_or-set_other lent slot s false false (λ same. eqb-false f g there.1 (stand.once f g slot here (there.0 ∙ ap (λ k. Some k) same))) ∙ stand.out g s there.0;
    once = single_none at f stand.once;
  }
