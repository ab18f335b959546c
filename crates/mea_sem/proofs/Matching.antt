-- as many entries of one map count as another has, where each has its own
use Rattle.std.proofs.Common.{◌≡◌, ◌⊎◌, inl, inr, ℕ, zero, suc, ◌-◌, ◌<◌, ◌==◌, Bool, true, false, cond, length, List, [], ◌∷◌, Some, None, is_some, refl, ap, sym, ◌∙◌, arith}
use Rattle.std.specs.Ordering.{nat_cmp}
use Rattle.std.specs.Cmp.{nat_cmp_total}
use Rattle.std.specs.FinMap.{FinMap, find, get, remove, entries, get-entries, get-empty, len, len-entries, len-remove, contains_key, empty_of_len}
use Rattle.std.proofs.lemmas.Bool.{eqb-false, eq-eqb}
use Rattle.mea_base.specs.Totals.{total, weight}
use Rattle.mea_base.proofs.Totals.{get_removed, total-remove, total-zero}
use Rattle.mea_base.proofs.Tests.{same_test, at_apart}

-- some entry of a map that is not empty
an_entry : (m : FinMap nat_cmp ℕ) (es : List (ℕ × ℕ)) → entries m ≡ es → 0 < length es → (k : ℕ) × (v : ℕ) × (get m k ≡ Some v)
an_entry m [] is some = absurd (omega arith)
an_entry m (e ∷ es) is some = (
  e.0,
  e.1,
  get-entries m e.0 ∙ ap (find nat_cmp e.0) is
      ∙ ap (λ b. cond b (Some e.1) (find nat_cmp e.0 es)) (same_test e.0 e.0 ∙ eq-eqb e.0 e.0 refl),
)

-- what is left after a removal was there, under another name
left_over : {X : Type 0} (m : FinMap nat_cmp X) (k q : ℕ) (v : X) → get (remove m k) q ≡ Some v → (k ≡ q → ⊥) × (get m q ≡ Some v)
left_over m k q v is = by_test (k == q) refl (sym (get_removed m k q) ∙ is)
  where
    by_test : (t : Bool) → (k == q) ≡ t → cond t None (get m q) ≡ Some v → (k ≡ q → ⊥) × (get m q ≡ Some v)
    by_test true h none = absurd (cc)
    by_test false h some = (eqb-false k q h, some)

stays : {X : Type 0} (m : FinMap nat_cmp X) (k q : ℕ) → (k ≡ q → ⊥) → get (remove m k) q ≡ get m q
stays m k q apart = get_removed m k q ∙ at_apart k q None (get m q) apart

module _ {X : Type 0} (w : ℕ → X → ℕ) (number : X → ℕ) where
  -- an entry that counts, under this number
  pub record Counts (m : FinMap nat_cmp X) (n : ℕ) : Type 0 where
    pub name : ℕ
    pub entry : X
    pub there : get m name ≡ Some entry
    pub counts : w name entry ≡ 1
    pub numbered : number entry ≡ n

  -- each number has an entry that counts, and each entry that counts has its own number
  pub record Matches (numbers : FinMap nat_cmp ℕ) (m : FinMap nat_cmp X) : Type 0 where
    pub has : (n d : ℕ) → get numbers n ≡ Some d → Counts m n
    pub each : (f : ℕ) (x : X) → get m f ≡ Some x → (w f x ≡ 0) ⊎ ((w f x ≡ 1) × ((d : ℕ) × (get numbers (number x) ≡ Some d)))
    pub apart : (f g : ℕ) (x y : X) → get m f ≡ Some x → get m g ≡ Some y → w f x ≡ 1 → w g y ≡ 1 → number x ≡ number y → f ≡ g

  matches_less : (numbers : FinMap nat_cmp ℕ) (m : FinMap nat_cmp X) (n : ℕ) → Matches numbers m → (c : Counts m n)
      → Matches (remove numbers n) (remove m c.name)
  matches_less numbers m n all c = record {
    has = λ k d is. has_still k d (left_over numbers n k d is);
    each = λ f x is. each_still f x (left_over m c.name f x is);
    apart = λ f g x y isx isy. all.apart f g x y (left_over m c.name f x isx).1 (left_over m c.name g y isy).1;
  }
    where
      has_still : (k d : ℕ) → (n ≡ k → ⊥) × (get numbers k ≡ Some d) → Counts (remove m c.name) k
      has_still k d left =
          let o = all.has k d left.1 in
          let other : c.name ≡ o.name → ⊥ = λ same. left.0 (
          let both : Some c.entry ≡ Some o.entry = sym c.there ∙ ap (get m) same ∙ o.there in
          let one : c.entry ≡ o.entry = cc in
          sym c.numbered ∙ ap number one ∙ o.numbered) in
          record { name = o.name; entry = o.entry; there = stays m c.name o.name other ∙ o.there; counts = o.counts; numbered = o.numbered }

      each_still : (f : ℕ) (x : X) → (c.name ≡ f → ⊥) × (get m f ≡ Some x)
          → (w f x ≡ 0) ⊎ ((w f x ≡ 1) × ((d : ℕ) × (get (remove numbers n) (number x) ≡ Some d)))
      each_still f x left = elim (all.each f x left.1) [
        | inl none ↦ inl none
        | inr one ↦ inr (
          one.0,
          (
            one.1.0,
            stays numbers n (number x)
                (λ same. left.0 (all.apart c.name f c.entry x c.there left.1 c.counts one.0 (c.numbered ∙ same))) ∙ one.1.1,
          ),
        )
      ]

  pub matches_count : (c : ℕ) (numbers : FinMap nat_cmp ℕ) (m : FinMap nat_cmp X) → len numbers ≡ c → Matches numbers m → total w m ≡ c
  matches_count zero numbers m is all = total-zero w m (λ f x there. elim (all.each f x there) [
    | inl none ↦ none
    | inr one ↦ absurd (let gone : get numbers (number x) ≡ None = ap (λ t. get t (number x)) (empty_of_len numbers is)
        ∙ get-empty nat_cmp (number x) in let some = one.1.1 in cc)
  ])
  matches_count (suc c) numbers m is all =
      let one = an_entry numbers (entries numbers) refl (let size : length (entries numbers) ≡ suc c = sym (len-entries numbers) ∙ is in omega arith) in
      let o = all.has one.0 one.1 one.2 in
      let there : contains_key numbers one.0 ≡ true = ap is_some one.2 in
      let fewer : len (remove numbers one.0) ≡ c = len-remove nat_cmp_total numbers one.0 ∙ ap (λ b. cond b (len numbers - 1) (len numbers)) there
      ∙ (let less : len numbers - 1 ≡ c = omega arith in less) in
      let rest : total w (remove m o.name) ≡ c = matches_count c (remove numbers one.0) (remove m o.name) fewer (matches_less numbers m one.0 all o) in
      let here : weight w o.name (get m o.name) ≡ 1 = ap (weight w o.name) o.there ∙ o.counts in
      omega (arith, rest, here, total-remove w m o.name)
