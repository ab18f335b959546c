-- how a change of one note changes the notified numbers
use Rattle.std.proofs.Common.{◌≡◌, ◌≢◌, ℕ, zero, suc, ◌+◌, ◌<◌, Bool, cond, List, [], ◌∷◌, get_or, Option, Some, None, refl, sym, ap, ◌∙◌, inl, inr, arith}
use Rattle.std.proofs.lemmas.Bool.{cases_eq}
use Rattle.std.specs.Cmp.{nat_cmp_total}
use Rattle.std.specs.FinMap as fin
use Rattle.std.specs.FinMap.{find, get-from_entries, get-insert, get-remove, same_map, nat_cmp-IsAntisymmetric}
use Rattle.std.specs.Ordering.{nat_cmp}
use Rattle.mea_base.proofs.Tests.{tied_same, tied_differs}
use Rattle.mea_lock_core.specs.Notes.{notified_in, notified_of, pairs_from, with_pair}
use Rattle.mea_lock_core.specs.declared.note.Note.{Note}

-- a pair of another number, or none, stands before others
find_behind : (q k : ℕ) (x : Option Bool) (ps : List (ℕ × Bool)) → q ≢ k → find nat_cmp q (with_pair k x ps) ≡ find nat_cmp q ps
find_behind q k None ps differs = refl
find_behind q k (Some b) ps differs = ap (λ t. cond t (Some b) (find nat_cmp q ps)) (tied_differs q k differs)

-- a number's own pair, or none, stands before others that have another number
find_here : (q k : ℕ) (x : Option Bool) (ps : List (ℕ × Bool)) → q ≡ k → find nat_cmp q ps ≡ None → find nat_cmp q (with_pair k x ps) ≡ x
find_here q k None ps same none = none
find_here q k (Some b) ps same none = ap (λ t. cond t (Some b) (find nat_cmp q ps)) (tied_same q k same)

module _ {W : Type 0} where
  -- no pair comes before the first number
  find_before : (q k : ℕ) (slots : List (Option (Note W))) → q < k → find nat_cmp q (pairs_from k slots) ≡ None
  find_before q k [] before = refl
  find_before q k (slot ∷ rest) before =
      find_behind q k (notified_in slot) (pairs_from (k + 1) rest) (λ e. omega arith) ∙ find_before q (k + 1) rest (omega arith)

  find_pairs : (k q : ℕ) (slots : List (Option (Note W))) → find nat_cmp (k + q) (pairs_from k slots) ≡ notified_in (get_or slots q None)
  find_pairs k q [] = refl
  find_pairs k zero (slot ∷ rest) =
      find_here (k + 0) k (notified_in slot) (pairs_from (k + 1) rest) (omega arith) (find_before (k + 0) (k + 1) rest (omega arith))
  find_pairs k (suc q) (slot ∷ rest) =
      find_behind (k + suc q) k (notified_in slot) (pairs_from (k + 1) rest) (λ e. omega arith)
      ∙ ap (λ m. find nat_cmp m (pairs_from (k + 1) rest)) (let e : k + suc q ≡ k + 1 + q = omega arith in e)
      ∙ find_pairs (k + 1) q rest

  -- what a number has among the notified ones
  pub get-notified : (slots : List (Option (Note W))) (q : ℕ) → fin.get (notified_of slots) q ≡ notified_in (get_or slots q None)
  get-notified slots q = get-from_entries nat_cmp_total _ q ∙ ap (λ m. find nat_cmp m (pairs_from 0 slots)) (let e : q ≡ 0 + q = omega arith in e)
      ∙ find_pairs 0 q slots

  -- notes that are notified alike
  pub notified_same : (old new : List (Option (Note W))) → ((q : ℕ) → notified_in (get_or new q None) ≡ notified_in (get_or old q None))
      → notified_of new ≡ notified_of old
  notified_same old new alike = same_map nat_cmp_total nat_cmp-IsAntisymmetric _ _ (λ q. get-notified new q ∙ alike q ∙ sym (get-notified old q))

  -- one was notified
  pub notified_inserted : (old new : List (Option (Note W))) (n : ℕ) (b : Bool)
      → ((other : ℕ) → other ≢ n → get_or new other None ≡ get_or old other None) → notified_in (get_or new n None) ≡ Some b
      → notified_of new ≡ fin.insert (notified_of old) n b
  notified_inserted old new n b others here =
      same_map nat_cmp_total nat_cmp-IsAntisymmetric _ _ (λ q.
      rw (get-notified new q, get-insert nat_cmp_total (notified_of old) n b q) (elim (cases_eq q n) [
        | inl same ↦ rw (tied_same q n same, same) here
        | inr differs ↦ rw (tied_differs q n differs, others q differs) (sym (get-notified old q))
      ]))

  -- one that was notified has left
  pub notified_removed : (old new : List (Option (Note W))) (n : ℕ) → ((other : ℕ) → other ≢ n → get_or new other None ≡ get_or old other None)
      → notified_in (get_or new n None) ≡ None → notified_of new ≡ fin.remove (notified_of old) n
  notified_removed old new n others here =
      same_map nat_cmp_total nat_cmp-IsAntisymmetric _ _ (λ q.
      rw (get-notified new q, get-remove nat_cmp_total (notified_of old) n q) (elim (cases_eq q n) [
        | inl same ↦ rw (tied_same q n same, same) here
        | inr differs ↦ rw (tied_differs q n differs, others q differs) (sym (get-notified old q))
      ]))
