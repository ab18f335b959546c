-- points that count, after an event that changes one of them and what is of it
use Rattle.std.proofs.Common.{◌≡◌, ℕ, ◌+◌, ◌<◌, ◌≤◌, ◌==◌, Some, None, IsSome, if◌then◌else◌, refl, ap, sym, subst, ◌∙◌, arith}
use Rattle.std.specs.FinMap.{get, insert, remove, empty}
use Rattle.std.proofs.lemmas.Bool.{eqb-true, eqb-false}
use Rattle.mea_base.proofs.Maps.{by_put, inside, is_there, value_in, get-there, get-other, get-gone, get-removed_other, removed_there, none_if, nothing_at, nothing_there}
use Rattle.mea_base.proofs.Tests.{by_name}
use Rattle.mea_by_name.specs.ByName.{Names, own, AreHome}
use Rattle.mea_by_name.proofs.Cases.{by_if}
use Rattle.mea_by_name.proofs.Halls.{home_without, no_thing}
use Rattle.mea_by_name.proofs.Own.{Moves, moves_elsewhere, moves_home}
use Rattle.mea_meet_model.specs.Counts.{Counts, Point, Holder, Wait, no_counts, things_of, of_itself, of_holder, of_wait}
use Rattle.mea_meet_model.specs.Valid.{IsPoint, AreThere, HasCounts}

pub home_later : {R X : Type 0} (owner : X → ℕ) (rs : Names R) (xs : Names X) (n i : ℕ) → AreHome owner rs xs n → n ≤ i → AreHome owner rs xs i
home_later owner rs xs n i home later = record { at = λ k x is. (omega (arith, (home.at k x is).0, later), (home.at k x is).1) }

pub home_empty : {R X : Type 0} (owner : X → ℕ) (rs : Names R) (n : ℕ) → AreHome owner rs empty n
home_empty {X = X} owner rs n = record { at = λ k x is. absurd (nothing_at X k x is) }

pub counts_empty : HasCounts no_counts 0
counts_empty = record {
  each = λ o r is. absurd (nothing_at Point o r is);
  there = λ o r is. absurd (nothing_at Point o r is);
  live = λ o some. absurd (nothing_there Point o some);
  below = λ o some. absurd (nothing_there Point o some);
  senders = home_empty of_itself empty 0;
  holders = home_empty of_holder empty 0;
  waits = home_empty of_wait empty 0;
  apart = λ k some. absurd (nothing_there Holder k some);
}

there_later : (o : ℕ) (r : Point) (ws : Names Wait) (n m : ℕ) → AreThere o r ws n → n ≤ m → AreThere o r ws m
there_later o r ws n m there later = record { named = λ e f w is. let low = there.named e f w is in omega (arith, low, later); waiting = there.waiting }

pub counts_later : (h : Counts) (n m : ℕ) → HasCounts h n → n ≤ m → HasCounts h m
counts_later h n m v later = record {
  each = v.each;
  there = λ o r is. there_later o r h.waits n m (v.there o r is) later;
  live = v.live;
  below = λ o some. let low = v.below o some in omega (arith, low, later);
  senders = home_later of_itself h.points h.senders n m v.senders later;
  holders = home_later of_holder h.points h.holders n m v.holders later;
  waits = home_later of_wait h.points h.waits n m v.waits later;
  apart = v.apart;
}

module _ (h : Counts) (n i : ℕ) (v : HasCounts h n) (later : n ≤ i) where
  pub no_point : get h.points i ≡ None
  no_point = none_if (get h.points i) (λ r is. absurd (let low = v.below i (is_there (get h.points i) r is) in omega (arith, low, later)))

  pub no_holder : get h.holders i ≡ None
  no_holder = no_thing of_holder h.points h.holders n i v.holders later

  pub no_wait : get h.waits i ≡ None
  no_wait = no_thing of_wait h.points h.waits n i v.waits later

  pub no_sender : get h.senders i ≡ None
  no_sender = no_thing of_itself h.points h.senders n i v.senders later

  -- futures of names that were given are those that there were
  abbrev pub AreOld : Names Wait → Type 0
  AreOld ws' = (f : ℕ) (x : Wait) → f < n → get ws' f ≡ Some x → get h.waits f ≡ Some x

  pub old_new : (x : Wait) → AreOld (insert h.waits i x)
  old_new x f y low is = sym (get-other h.waits i f x (λ same. absurd (omega (arith, same, low, later)))) ∙ is

  pub old_gone : (k : ℕ) → AreOld (remove h.waits k)
  old_gone k f y low is = removed_there h.waits k f y is

  -- ---- what is left of what is of o: the senders, the holders and the futures
  module _ (o : ℕ) (ws' : Names Wait) (hs' : Names Holder) (ss' : Names ℕ) (waits : Moves of_wait o i h.waits ws') (holders : Moves of_holder o i h.holders hs') (senders : Moves of_itself o i h.senders ss')
      (apart : (k : ℕ) → IsSome (get hs' k) → get ws' k ≡ None) (old : AreOld ws') where
    abbrev things : Names Point → ℕ → ℕ
    things ps q = things_of (record { points = ps; senders = ss'; holders = hs'; waits = ws' }) q

    same_things : (ps : Names Point) (q : ℕ) → (o ≡ q → ⊥) → things ps q ≡ things_of h q
    same_things ps q differs = rw (moves_elsewhere of_wait o i h.waits ws' waits q differs, moves_elsewhere of_holder o i h.holders hs' holders q differs, moves_elsewhere of_itself o i h.senders ss' senders q differs) refl

    -- and the points are these now
    changed : (ps : Names Point) → ((q : ℕ) → (o ≡ q → ⊥) → get ps q ≡ get h.points q)
        → ((p : Point) → get ps o ≡ Some p → IsPoint p (own of_wait o ws') (own of_holder o hs') × AreThere o p ws' (i + 1) × (0 < things ps o) × (o < i + 1))
        → AreHome of_itself ps ss' (i + 1) → AreHome of_holder ps hs' (i + 1) → AreHome of_wait ps ws' (i + 1) → HasCounts (record { points = ps; senders = ss'; holders = hs'; waits = ws' }) (i + 1)
    changed ps others here home_senders home_holders home_waits = record {
      each = λ q p is. by_name o q (λ same. subst (λ j. IsPoint p (own of_wait j ws') (own of_holder j hs')) same (here p (ap (get ps) same ∙ is)).0)
          (λ differs. rw (moves_elsewhere of_wait o i h.waits ws' waits q differs, moves_elsewhere of_holder o i h.holders hs' holders q differs) (v.each q p (sym (others q differs) ∙ is)));
      there = λ q p is. by_name o q (λ same. subst (λ j. AreThere j p ws' (i + 1)) same (here p (ap (get ps) same ∙ is)).1)
          (λ differs. let was = v.there q p (sym (others q differs) ∙ is) in
          record { named = λ e f w has. let low = was.named e f w has in omega (arith, low, later); waiting = λ e f w x has lives. was.waiting e f w x has (old f x (was.named e f w has) lives) });
      live = λ q some. let it = value_in (get ps q) some in by_name o q (λ same. subst (λ j. 0 < things ps j) same (here it.0 (ap (get ps) same ∙ it.1)).2)
          (λ differs. let lives = v.live q (is_there (get h.points q) it.0 (sym (others q differs) ∙ it.1)) in omega (arith, lives, same_things ps q differs));
      below = λ q some. let it = value_in (get ps q) some in by_name o q (λ same. omega (arith, same, (here it.0 (ap (get ps) same ∙ it.1)).3))
          (λ differs. let low = v.below q (is_there (get h.points q) it.0 (sym (others q differs) ∙ it.1)) in omega (arith, low, later));
      senders = home_senders;
      holders = home_holders;
      waits = home_waits;
      apart = apart;
    }

    -- the point is p now, of which something is left
    pub put : (p : Point) → ((q : ℕ) → IsSome (get h.points q) → IsSome (get (insert h.points o p) q)) → IsPoint p (own of_wait o ws') (own of_holder o hs') → AreThere o p ws' (i + 1) → 0 < things h.points o → o < i + 1
        → HasCounts (record { points = insert h.points o p; senders = ss'; holders = hs'; waits = ws' }) (i + 1)
    put p keep good there some low =
        let ps : Names Point = insert h.points o p in
        let it : IsSome (get (insert h.points o p) o) = is_there (get (insert h.points o p) o) p (get-there h.points o p) in
        changed (insert h.points o p) (λ q differs. get-other h.points o q p differs)
        (λ r is. let same : p ≡ r = inside (sym (get-there h.points o p) ∙ is) in subst (λ r. IsPoint r (own of_wait o ws') (own of_holder o hs') × AreThere o r ws' (i + 1) × (0 < things (insert h.points o p) o) × (o < i + 1)) same (good, there, some, low))
        (moves_home of_itself h.points (insert h.points o p) o i n h.senders ss' senders later v.senders it keep)
        (moves_home of_holder h.points (insert h.points o p) o i n h.holders hs' holders later v.holders it keep)
        (moves_home of_wait h.points (insert h.points o p) o i n h.waits ws' waits later v.waits it keep)

    -- the point, which was there, is p now, or gone where nothing is left
    module _ (r : Point) (is : get h.points o ≡ Some r) where
      low_name : o < i + 1
      low_name = let low = v.below o (is_there (get h.points o) r is) in omega (arith, low, later)

      pub turned : (p : Point) → IsPoint p (own of_wait o ws') (own of_holder o hs') → AreThere o p ws' (i + 1) → 0 < things h.points o → HasCounts (record { points = insert h.points o p; senders = ss'; holders = hs'; waits = ws' }) (i + 1)
      turned p good there some = put p (λ q some. by_put h.points o p (λ q t. IsSome (get h.points q) → IsSome t) (λ some. refl) (λ q differs some. some) q some) good there some low_name

      left : things h.points o ≡ 0 → HasCounts (record { points = remove h.points o; senders = ss'; holders = hs'; waits = ws' }) (i + 1)
      left none =
          let it : IsSome (get h.points o) = is_there (get h.points o) r is in
          changed (remove h.points o) (λ q differs. get-removed_other h.points o q differs) (λ p has. absurd (let gone = get-gone h.points o in let no = sym gone ∙ has in cc))
          (home_without of_itself h.points ss' o (i + 1) (moves_home of_itself h.points h.points o i n h.senders ss' senders later v.senders it (λ q some. some)) (omega (arith, none)))
          (home_without of_holder h.points hs' o (i + 1) (moves_home of_holder h.points h.points o i n h.holders hs' holders later v.holders it (λ q some. some)) (omega (arith, none)))
          (home_without of_wait h.points ws' o (i + 1) (moves_home of_wait h.points h.points o i n h.waits ws' waits later v.waits it (λ q some. some)) (omega (arith, none)))

      pub tidies : (p : Point) → IsPoint p (own of_wait o ws') (own of_holder o hs') → AreThere o p ws' (i + 1)
          → HasCounts (record { points = if things h.points o == 0 then remove h.points o else insert h.points o p; senders = ss'; holders = hs'; waits = ws' }) (i + 1)
      tidies p good there = by_if (λ ps. HasCounts (record { points = ps; senders = ss'; holders = hs'; waits = ws' }) (i + 1)) (things h.points o == 0) (remove h.points o) (insert h.points o p)
          (λ none. left (eqb-true (things h.points o) 0 none)) (λ some. turned p good there (let more = eqb-false (things h.points o) 0 some in omega (arith, more)))
