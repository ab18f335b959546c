-- the top of a tournament is one of its leaves that none is before
use Rattle.std.proofs.Common.{◌≡◌, ℕ, suc, zero, ◌+◌, ◌-◌, ◌*◌, ◌/◌, ◌<◌, ◌≤◌, inl, inr, List, length, drop, set, get_or, Option, None, refl, sym, subst, ◌∙◌, arith}
use Rattle.std.proofs.lemmas.Bool.{cases_lt, cases_eq}
use Rattle.std.proofs.lemmas.List.{get_or-drop, get_or-set_same, get_or-set_other, length-drop, length-set, drop-set-add, ext_get_or}
use Rattle.mea_share_core.specs.declared.rank.Rank.{Rank}
use Rattle.mea_share_core.specs.Rank.{lesser, NotBefore, IsNext}
use Rattle.mea_share_core.specs.Tournament.{IsNode, IsTree, IsTreeBut}
use Rattle.mea_share_core.proofs.Ranks.{not_itself, chain, not_left, not_right, one_of}

module _ (leaves : ℕ) (tree : List (Option Rank)) (played : IsTree leaves tree) where
  below_top : (fuel k : ℕ) → k ≤ fuel → 0 < k → k < 2 * leaves → NotBefore (get_or tree k None) (get_or tree 1 None)
  below_top zero k enough some within = absurd (omega arith)
  below_top (suc fuel) k enough some within = elim (cases_eq k 1) as (λ _. NotBefore (get_or tree k None) (get_or tree 1 None)) [
    | inl one ↦ subst (λ j. NotBefore (get_or tree j None) (get_or tree 1 None)) (sym one) (not_itself (get_or tree 1 None))
    | inr more ↦
        let up : NotBefore (get_or tree (k / 2) None) (get_or tree 1 None) = below_top fuel (k / 2) (omega arith) (omega arith) (omega arith) in
        let left : Option Rank = get_or tree (2 * (k / 2)) None in
        let right : Option Rank = get_or tree (2 * (k / 2) + 1) None in
        let node : get_or tree (k / 2) None ≡ lesser left right = played (k / 2) (omega arith) (omega arith) in
        chain (get_or tree k None) (get_or tree (k / 2) None) (get_or tree 1 None) (subst (λ r. NotBefore (get_or tree k None) r) (sym node)
        (elim (cases_eq k (2 * (k / 2))) as (λ _. NotBefore (get_or tree k None) (lesser left right)) [
          | inl even ↦ subst (λ j. NotBefore (get_or tree j None) (lesser left right)) (sym even) (not_left left right)
          | inr odd ↦ let is : k ≡ 2 * (k / 2) + 1 = omega arith in subst (λ j. NotBefore (get_or tree j None) (lesser left right)) (sym is) (not_right left right)
        ])) up
  ]

  -- a leaf below a node that has the node's rank
  leaf_below : (fuel k : ℕ) → 2 * leaves ≤ k + fuel → 0 < k → k < 2 * leaves → (j : ℕ) × (leaves ≤ j) × (j < 2 * leaves) × (get_or tree j None ≡ get_or tree k None)
  leaf_below zero k enough some within = absurd (omega arith)
  leaf_below (suc fuel) k enough some within = elim (cases_lt k leaves) as (λ _. (j : ℕ) × (leaves ≤ j) × (j < 2 * leaves) × (get_or tree j None ≡ get_or tree k None)) [
    | inl inner ↦ elim (one_of (get_or tree (2 * k) None) (get_or tree (2 * k + 1) None)) as (λ _. (j : ℕ) × (leaves ≤ j) × (j < 2 * leaves) × (get_or tree j None ≡ get_or tree k None)) [
      | inl left ↦ let found = leaf_below fuel (2 * k) (omega arith) (omega arith) (omega arith) in (found.0, found.1, found.2, found.3 ∙ sym left ∙ sym (played k some inner))
      | inr right ↦ let found = leaf_below fuel (2 * k + 1) (omega arith) (omega arith) (omega arith) in (found.0, found.1, found.2, found.3 ∙ sym right ∙ sym (played k some inner))
    ]
    | inr leaf ↦ (k, leaf, within, refl)
  ]

  pub tops : 0 < leaves → length tree ≡ 2 * leaves → IsNext (drop leaves tree) (get_or tree 1 None)
  tops some size =
      let found = leaf_below (2 * leaves) 1 (omega arith) (omega arith) (omega arith) in
      record {
        first = λ k within.
            subst (λ r. NotBefore r (get_or tree 1 None)) (sym (get_or-drop leaves tree k None))
            (below_top (leaves + k) (leaves + k) (omega arith) (omega arith) (omega (arith, within, length-drop leaves tree, size)));
        there = λ _. (
          found.0 - leaves,
          omega (arith, found.1, found.2, length-drop leaves tree, size),
          get_or-drop leaves tree (found.0 - leaves) None ∙ subst (λ j. get_or tree j None ≡ get_or tree 1 None) (let e : found.0 ≡ leaves + (found.0 - leaves) = omega (arith, found.1) in e) found.3,
        );
      }

-- a set node among the leaves is a set leaf
pub set_leaf : (leaves place : ℕ) (old new : List (Option Rank)) (r : Option Rank) → length old ≡ 2 * leaves → length new ≡ 2 * leaves
    → ((k : ℕ) → leaves ≤ k → get_or new k None ≡ get_or (set old (leaves + place) r) k None) → drop leaves new ≡ set (drop leaves old) place r
set_leaf leaves place old new r before after same =
    ext_get_or None (drop leaves new) (drop leaves (set old (leaves + place) r))
    (omega (arith, before, after, length-drop leaves new, length-drop leaves (set old (leaves + place) r), length-set old (leaves + place) r))
    (λ i _. get_or-drop leaves new i None ∙ same (leaves + i) (omega arith) ∙ sym (get_or-drop leaves (set old (leaves + place) r) i None))
    ∙ drop-set-add leaves old place r

pub lesser_of : {a b c d : Option Rank} → a ≡ b → c ≡ d → lesser a c ≡ lesser b d
lesser_of e f = λ i. lesser (e i) (f i)

-- a node is played, and the one above it may have to be
pub played_at : (p leaves : ℕ) (tree : List (Option Rank)) (r : Option Rank) → length tree ≡ 2 * leaves → 0 < p → p < leaves → IsTreeBut p leaves tree
    → r ≡ lesser (get_or tree (2 * p) None) (get_or tree (2 * p + 1) None) → IsTreeBut (p / 2) leaves (set tree p r)
played_at p leaves tree r size some inner played is = λ k above below other. elim (cases_eq k p) as (λ _. IsNode (set tree p r) k) [
  | inl same ↦ subst (λ j. IsNode (set tree p r) j) (sym same)
      (get_or-set_same tree p r None (omega arith) ∙ is
      ∙ sym (lesser_of (get_or-set_other tree p (2 * p) r None (λ e. omega (arith, e, some))) (get_or-set_other tree p (2 * p + 1) r None (λ e. omega (arith, e, some)))))
  | inr apart ↦
      get_or-set_other tree p k r None apart ∙ played k above below apart
      ∙ sym (lesser_of (get_or-set_other tree p (2 * k) r None (λ e. other (omega (arith, e)))) (get_or-set_other tree p (2 * k + 1) r None (λ e. other (omega (arith, e)))))
]

-- where the node is the lesser as it is, all are played
pub all_played : (p leaves : ℕ) (tree : List (Option Rank)) → IsTreeBut p leaves tree → IsNode tree p → IsTree leaves tree
all_played p leaves tree played here = λ k above below. elim (cases_eq k p) as (λ _. IsNode tree k) [
  | inl same ↦ subst (λ j. IsNode tree j) (sym same) here
  | inr apart ↦ played k above below apart
]
