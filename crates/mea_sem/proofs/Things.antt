-- the entries of a map by name, and what a change of the map changes among them
use Rattle.std.proofs.Common.{◌≡◌, ℕ, ◌==◌, cond, [], Some, None, sym, ap, ◌∙◌}
use Rattle.std.specs.Ordering.{nat_cmp}
use Rattle.std.specs.FinMap.{entries, empty, get, insert, remove, len, len-empty, len-entries}
use Rattle.std.proofs.lemmas.List.{nil_from_length}
use Rattle.mea_base.specs.Named.{at, ChangesAt}
use Rattle.mea_base.proofs.NamedMaps.{changed_at, kept-at, get-seen, option_map-same}
use Rattle.mea_base.proofs.Totals.{get_inserted, get_removed}
use Rattle.mea_by_name.specs.ByName.{Names}
use Rattle.mea_by_name.proofs.Own.{gone_none}

pub at-entries : {X : Type 0} (m : Names X) (k : ℕ) → at (entries m) k ≡ get m k
at-entries m k = sym (kept-at (entries m) k) ∙ get-seen (λ k x. x) m k ∙ option_map-same (get m k)

pub entries_put : {X : Type 0} (m n : Names X) (k : ℕ) (x : X) → n ≡ insert m k x → ChangesAt (entries m) (entries n) k (Some x)
entries_put m n k x is q = at-entries n q ∙ ap (λ l. get l q) is ∙ get_inserted m k q x ∙ ap (cond (k == q) (Some x)) (sym (at-entries m q))

pub entries_gone : {X : Type 0} (m n : Names X) (k : ℕ) → n ≡ remove m k → ChangesAt (entries m) (entries n) k None
entries_gone m n k is q = at-entries n q ∙ ap (λ l. get l q) is ∙ get_removed m k q ∙ ap (cond (k == q) None) (sym (at-entries m q))

-- what was put stands there
pub stands_put : {X : Type 0} (m n : Names X) (k : ℕ) (x : X) → n ≡ insert m k x → get n k ≡ Some x
stands_put m n k x is = sym (at-entries n k) ∙ changed_at (entries m) (entries n) k (Some x) (entries_put m n k x is)

-- where nothing stood, nothing was taken
pub entries_same : {X : Type 0} (m n : Names X) (k : ℕ) → n ≡ remove m k → get m k ≡ None → entries n ≡ entries m
entries_same m n k is none = ap entries (is ∙ gone_none m k none)

pub entries_none : {X : Type 0} (m : Names X) → m ≡ empty → entries m ≡ []
entries_none {X} m is = nil_from_length (entries m) (sym (len-entries m) ∙ ap (λ l. len l) is ∙ len-empty nat_cmp X)
