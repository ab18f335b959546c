-- entries by name, and a thing that stands beside them
use Rattle.std.proofs.Common.{◌≡◌, ℕ, ◌==◌, ◌&&◌, nat_eq, Bool, true, false, not, cond, length, List, [], ◌∷◌, Option, Some, None, is_some, refl, ap, sym, ◌∙◌}
use Rattle.std.specs.Map.{keys_of}
use Rattle.std.specs.FinMap.{get, insert, remove}
use Rattle.std.proofs.lemmas.Bool.{eqb-true, eqb-false}
use Rattle.mea_base.specs.Named.{at, ChangesAt}
use Rattle.mea_base.proofs.Totals.{get_inserted, get_removed}
use Rattle.mea_base.proofs.NamedMaps.{same_named, kept-at, named_put, named_remove}
use Rattle.mea_by_name.specs.ByName.{Names, kept}
use Rattle.mea_by_name.specs.Beside.{beside, stands, may_stand, may_follow, IsApart}

-- ---- what stands at a name
at-beside : {X : Type 0} (k : ℕ) (one : Option X) (es : List (ℕ × X)) (q : ℕ) → at (beside k one es) q ≡ cond (stands k one q) one (at es q)
at-beside k None es q = refl
at-beside k (Some x) es q = refl

pub one_at : {X : Type 0} (k : ℕ) (one : Option X) (es : List (ℕ × X)) (q : ℕ) → stands k one q ≡ true → get (kept (beside k one es)) q ≡ one
one_at k one es q is = kept-at (beside k one es) q ∙ at-beside k one es q ∙ ap (λ b. cond b one (at es q)) is

pub other_at : {X : Type 0} (k : ℕ) (one : Option X) (es : List (ℕ × X)) (q : ℕ) → stands k one q ≡ false → get (kept (beside k one es)) q ≡ at es q
other_at k one es q is = kept-at (beside k one es) q ∙ at-beside k one es q ∙ ap (λ b. cond b one (at es q)) is

-- a list of no entries has nothing at a name
pub nothing_at : {X : Type 0} (es : List (ℕ × X)) (q : ℕ) → length es ≡ 0 → not (is_some (at es q)) ≡ true
nothing_at [] q none = refl
nothing_at (e ∷ es) q none = absurd (cc)

lacking : {X : Type 0} (o : Option X) → not (is_some o) ≡ true → o ≡ None
lacking None is = refl
lacking (Some x) is = absurd (cc)

-- ---- an entry of another name changes
-- where two names differ, a third is not both
not_both : {X : Type 0} (k q p : ℕ) (b c : Bool) → nat_eq p k ≡ b → nat_eq q p ≡ c → nat_eq q k ≡ false → (u v w : X) → cond b u (cond c v w) ≡ cond c v (cond b u w)
not_both k q p true true e d other u v w = absurd (eqb-false q k other (eqb-true q p d ∙ eqb-true p k e))
not_both k q p true false e d other u v w = refl
not_both k q p false true e d other u v w = refl
not_both k q p false false e d other u v w = refl

other_changed : {X : Type 0} (k : ℕ) (one : Option X) (es fs : List (ℕ × X)) (q : ℕ) (o : Option X) → stands k one q ≡ false → ChangesAt es fs q o → ChangesAt (beside k one es) (beside k one fs) q o
other_changed k None es fs q o other changed p = changed p
other_changed k (Some x) es fs q o other changed p = ap (cond (nat_eq p k) (Some x)) (changed p) ∙ not_both k q p (nat_eq p k) (nat_eq q p) refl refl other (Some x) o (at es p)

pub other_put : {X : Type 0} (k : ℕ) (one : Option X) (es fs : List (ℕ × X)) (q : ℕ) (x : X) → stands k one q ≡ false → ChangesAt es fs q (Some x) → kept (beside k one fs) ≡ insert (kept (beside k one es)) q x
other_put k one es fs q x other changed = named_put (λ k x. x) (beside k one es) (beside k one fs) q x (other_changed k one es fs q (Some x) other changed)

pub other_gone : {X : Type 0} (k : ℕ) (one : Option X) (es fs : List (ℕ × X)) (q : ℕ) → stands k one q ≡ false → ChangesAt es fs q None → kept (beside k one fs) ≡ remove (kept (beside k one es)) q
other_gone k one es fs q other changed = named_remove (λ k x. x) (beside k one es) (beside k one fs) q (other_changed k one es fs q None other changed)

pub stays_apart : {X : Type 0} (k : ℕ) (one : Option X) (es fs : List (ℕ × X)) (q : ℕ) (o : Option X) → stands k one q ≡ false → ChangesAt es fs q o → IsApart k one es → IsApart k one fs
stays_apart k None es fs q o other changed apart = λ some. absurd (cc)
stays_apart k (Some x) es fs q o other changed apart = λ some. changed k ∙ ap (λ b. cond b o (at es k)) other ∙ apart some

-- whether a name is among these
abbrev has : List ℕ → ℕ → Bool
has [] q = false
has (k ∷ ks) q = cond (nat_eq q k) true (has ks q)

first_or : {X : Type 0} (b : Bool) (x : X) (o : Option X) (c : Bool) → is_some o ≡ c → is_some (cond b (Some x) o) ≡ cond b true c
first_or true x o c is = refl
first_or false x o c is = is

at-has : {X : Type 0} (es : List (ℕ × X)) (q : ℕ) → is_some (at es q) ≡ has (keys_of es) q
at-has [] q = refl
at-has (e ∷ es) q = first_or (nat_eq q e.0) e.1 (at es q) (has (keys_of es) q) (at-has es q)

-- where values alone were written, no entry has the name of the thing still
pub written_apart : {X : Type 0} (k : ℕ) (one : Option X) (es fs : List (ℕ × X)) → keys_of fs ≡ keys_of es → IsApart k one es → IsApart k one fs
written_apart k one es fs same apart = λ some. lacking (at fs k) (ap not (at-has fs k ∙ ap (λ ks. has ks k) same ∙ sym (at-has es k) ∙ ap is_some (apart some)))

-- ---- the thing beside them is written, put or taken away
pub one_written : {X : Type 0} (k : ℕ) (one : Option X) (es : List (ℕ × X)) (q : ℕ) (x : X) → stands k one q ≡ true → kept (beside k (Some x) es) ≡ insert (kept (beside k one es)) q x
one_written k None es q x is = absurd (cc)
one_written k (Some y) es q x is = named_put (λ k x. x) ((k, y) ∷ es) ((k, x) ∷ es) q x (λ p. by_test p (nat_eq p k) (nat_eq q p) refl refl)
  where
    by_test : (p : ℕ) (b c : Bool) → nat_eq p k ≡ b → nat_eq q p ≡ c → cond b (Some x) (at es p) ≡ cond c (Some x) (cond b (Some y) (at es p))
    by_test p true true e d = refl
    by_test p true false e d = absurd (eqb-false q p d (eqb-true q k is ∙ sym (eqb-true p k e)))
    by_test p false true e d = absurd (eqb-false p k e (sym (eqb-true q p d) ∙ eqb-true q k is))
    by_test p false false e d = refl

-- where one thing may stand, another does not
pub not_beside : {X : Type 0} (k : ℕ) (one : Option X) (es : List (ℕ × X)) (q : ℕ) → may_stand k one es q ≡ false → stands k one q ≡ false
not_beside k None es q not = refl
not_beside k (Some x) es q not = not

pub put_beside : {X : Type 0} (k : ℕ) (one : Option X) (es : List (ℕ × X)) (q : ℕ) (x : X) → may_stand k one es q ≡ true → kept (beside q (Some x) es) ≡ insert (kept (beside k one es)) q x
put_beside k None es q x may = named_put (λ k x. x) es ((q, x) ∷ es) q x (λ p. by_test p (nat_eq p q) (nat_eq q p) refl refl)
  where
    by_test : (p : ℕ) (b c : Bool) → nat_eq p q ≡ b → nat_eq q p ≡ c → cond b (Some x) (at es p) ≡ cond c (Some x) (at es p)
    by_test p true true e d = refl
    by_test p true false e d = absurd (eqb-false q p d (sym (eqb-true p q e)))
    by_test p false true e d = absurd (eqb-false p q e (sym (eqb-true q p d)))
    by_test p false false e d = refl
put_beside k (Some y) es q x may = ap (λ n. kept ((n, x) ∷ es)) (eqb-true q k may) ∙ one_written k (Some y) es q x may

pub put_apart : {X : Type 0} (k : ℕ) (one : Option X) (es : List (ℕ × X)) (q : ℕ) (x : X) → may_stand k one es q ≡ true → IsApart k one es → IsApart q (Some x) es
put_apart k None es q x may apart = λ some. lacking (at es q) may
put_apart k (Some y) es q x may apart = λ some. ap (at es) (eqb-true q k may) ∙ apart refl

pub one_gone : {X : Type 0} (k : ℕ) (one : Option X) (es : List (ℕ × X)) (q : ℕ) → stands k one q ≡ true → IsApart k one es → kept (beside k None es) ≡ remove (kept (beside k one es)) q
one_gone k None es q is apart = absurd (cc)
one_gone k (Some y) es q is apart = named_remove (λ k x. x) ((k, y) ∷ es) es q (λ p. by_test p (nat_eq p k) (nat_eq q p) refl refl)
  where
    by_test : (p : ℕ) (b c : Bool) → nat_eq p k ≡ b → nat_eq q p ≡ c → at es p ≡ cond c None (cond b (Some y) (at es p))
    by_test p true true e d = ap (at es) (eqb-true p k e) ∙ apart refl
    by_test p true false e d = absurd (eqb-false q p d (eqb-true q k is ∙ sym (eqb-true p k e)))
    by_test p false true e d = absurd (eqb-false p k e (sym (eqb-true q p d) ∙ eqb-true q k is))
    by_test p false false e d = refl

-- one name is gone and another has a thing, in either order
pub swapped : {X : Type 0} (m : Names X) (k q : ℕ) (x : X) → (k ≡ q → ⊥) → remove (insert m q x) k ≡ insert (remove m k) q x
swapped m k q x apart = same_named (remove (insert m q x) k) (insert (remove m k) q x) (λ p.
    get_removed (insert m q x) k p ∙ ap (cond (k == p) None) (get_inserted m q p x)
    ∙ by_test p (k == p) (q == p) refl refl
    ∙ sym (get_inserted (remove m k) q p x ∙ ap (cond (q == p) (Some x)) (get_removed m k p)))
  where
    by_test : (p : ℕ) (b c : Bool) → (k == p) ≡ b → (q == p) ≡ c → cond b None (cond c (Some x) (get m p)) ≡ cond c (Some x) (cond b None (get m p))
    by_test p true true e d = absurd (apart (eqb-true k p e ∙ sym (eqb-true q p d)))
    by_test p true false e d = refl
    by_test p false true e d = refl
    by_test p false false e d = refl

follows_parts : (a b : Bool) → (a && b) ≡ true → (a ≡ true) × (b ≡ true)
follows_parts true b is = (refl, is)
follows_parts false b is = absurd (cc)

-- the thing beside the entries goes, and another stands there
pub replaced : {X : Type 0} (k : ℕ) (one : Option X) (es : List (ℕ × X)) (q p : ℕ) (x : X) → may_follow k one es q p ≡ true → IsApart k one es
    → kept (beside p (Some x) es) ≡ insert (remove (kept (beside k one es)) q) p x
replaced k one es q p x may apart =
    let parts = follows_parts (stands k one q) (not (is_some (at es p))) may in
    put_beside k None es p x parts.1 ∙ ap (λ m. insert m p x) (one_gone k one es q parts.0 apart)

pub follows_apart : {X : Type 0} (k : ℕ) (one : Option X) (es : List (ℕ × X)) (q p : ℕ) (x : X) → may_follow k one es q p ≡ true → IsApart p (Some x) es
follows_apart k one es q p x may = λ some. lacking (at es p) (follows_parts (stands k one q) (not (is_some (at es p))) may).1
