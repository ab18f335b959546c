-- halls after an event that changes one object and at most one thing of each sort
use Rattle.std.proofs.Common.{◌≡◌, ℕ, ◌+◌, ◌<◌, ◌≤◌, ◌^◌, Option, Some, None, refl, ap, sym, arith}
use Rattle.std.specs.Option.{IsSome}
use Rattle.std.specs.FinMap.{get, insert, remove, empty, len}
use Rattle.mea_base.proofs.Maps.{by_put, by_gone, removed_there, get-there, is_there, value_in}
use Rattle.mea_by_name.specs.ByName.{Names, own, AreHome}
use Rattle.mea_by_name.specs.HallKept.{HallKept}
use Rattle.mea_by_name.proofs.Own.{own-empty, own-nothing, Moves, moves_elsewhere, moves_home}

-- things none of which is of o have their objects still where o is gone
pub home_without : {E X : Type 0} (owner : X → ℕ) (es : Names E) (xs : Names X) (o n : ℕ) → AreHome owner es xs n → len (own owner o xs) ≡ 0 → AreHome owner (remove es o) xs n
home_without owner es xs o n home none = record {
  at = λ k x is. (
    (home.at k x is).0,
    by_gone es o (λ q p. owner x ≡ q → IsSome (get es q) → IsSome p)
        (λ mine some. absurd (own-nothing owner o xs none k x is (sym mine))) (λ q apart mine some. some) (owner x) refl (home.at k x is).1,
  );
}

home_later : {E X : Type 0} (owner : X → ℕ) (es : Names E) (xs : Names X) (n i : ℕ) → AreHome owner es xs n → n ≤ i → AreHome owner es xs (i + 1)
home_later owner es xs n i home later = record { at = λ k x is. (omega (arith, (home.at k x is).0), (home.at k x is).1) }

-- the name of the event is no thing's yet
pub no_thing : {E X : Type 0} (owner : X → ℕ) (es : Names E) (xs : Names X) (n i : ℕ) → AreHome owner es xs n → n ≤ i → get xs i ≡ None
no_thing {X = X} owner es xs n i home later = at (get xs i) refl
  where
    at : (p : Option X) → get xs i ≡ p → get xs i ≡ None
    at None is = is
    at (Some x) is = absurd (let low = (home.at i x is).0 in omega arith)

-- nothing is of an object that is not there
own_absent : {E X : Type 0} (owner : X → ℕ) (es : Names E) (xs : Names X) (n o : ℕ) → AreHome owner es xs n → get es o ≡ None → own owner o xs ≡ empty
own_absent owner es xs n o home none = own-empty owner o xs (λ k x is mine. let there = value_in (get es (owner x)) (home.at k x is).1 in absurd (let here = ap (get es) mine in cc))

module _ {E X Y : Type 0} (of_first : X → ℕ) (of_second : Y → ℕ) (Good : E → Names X → Names Y → Type 0) (size : E → ℕ)
    (es : Names E) (xs : Names X) (ys : Names Y) (next i : ℕ) (kept : HallKept of_first of_second Good size es xs ys next) (later : next ≤ i) (fits : i < 2 ^ 64) where
  -- one object changes, with its things
  pub turns : (o : ℕ) (e e' : E) (xs' : Names X) (ys' : Names Y) → get es o ≡ Some e → Moves of_first o i xs xs' → Moves of_second o i ys ys'
      → Good e' (own of_first o xs') (own of_second o ys') → size e' ≤ size e + 1 → HallKept of_first of_second Good size (insert es o e') xs' ys' (i + 1)
  turns o e e' xs' ys' there firsts seconds good bound =
      let keep : (q : ℕ) → IsSome (get es q) → IsSome (get (insert es o e') q) = λ q some. by_put es o e' (λ q p. IsSome (get es q) → IsSome p) (λ some. refl) (λ q apart some. some) q some in
      let here : IsSome (get (insert es o e') o) = is_there (get (insert es o e') o) e' (get-there es o e') in
      record {
        each = by_put es o e' (λ q p. (d : E) → p ≡ Some d → Good d (own of_first q xs') (own of_second q ys'))
            (λ d is. let same : e' ≡ d = cc in rw (← same) good)
            (λ q apart d is. rw (moves_elsewhere of_first o i xs xs' firsts q apart, moves_elsewhere of_second o i ys ys' seconds q apart) (kept.each q d is));
        below = by_put es o e' (λ q p. (d : E) → p ≡ Some d → (q < i + 1) × (size d ≤ i + 1))
            (λ d is. let same : e' ≡ d = cc in let low = kept.below o e there in rw (← same) (omega (arith, low.0), omega (arith, low.1)))
            (λ q apart d is. let low = kept.below q d is in (omega (arith, low.0), omega (arith, low.1)));
        firsts = moves_home of_first es (insert es o e') o i next xs xs' firsts later kept.firsts here keep;
        seconds = moves_home of_second es (insert es o e') o i next ys ys' seconds later kept.seconds here keep;
        low = omega arith;
      }

  -- one object is gone with the last of its things
  pub goes_out : (o : ℕ) (e : E) (xs' : Names X) (ys' : Names Y) → get es o ≡ Some e → Moves of_first o i xs xs' → Moves of_second o i ys ys'
      → len (own of_first o xs') ≡ 0 → len (own of_second o ys') ≡ 0 → HallKept of_first of_second Good size (remove es o) xs' ys' (i + 1)
  goes_out o e xs' ys' there firsts seconds no_xs no_ys =
      let here : IsSome (get es o) = is_there (get es o) e there in
      record {
        each = by_gone es o (λ q p. (d : E) → p ≡ Some d → Good d (own of_first q xs') (own of_second q ys'))
            (λ d is. absurd (cc))
            (λ q apart d is. rw (moves_elsewhere of_first o i xs xs' firsts q apart, moves_elsewhere of_second o i ys ys' seconds q apart) (kept.each q d is));
        below = λ q d is. let low = kept.below q d (removed_there es o q d is) in (omega (arith, low.0), omega (arith, low.1));
        firsts = home_without of_first es xs' o (i + 1) (moves_home of_first es es o i next xs xs' firsts later kept.firsts here (λ q some. some)) no_xs;
        seconds = home_without of_second es ys' o (i + 1) (moves_home of_second es es o i next ys ys' seconds later kept.seconds here (λ q some. some)) no_ys;
        low = omega arith;
      }

  -- nothing changes but the number
  pub rests : HallKept of_first of_second Good size es xs ys (i + 1)
  rests = record {
    each = kept.each;
    below = λ q d is. let low = kept.below q d is in (omega (arith, low.0), omega (arith, low.1));
    firsts = home_later of_first es xs next i kept.firsts later;
    seconds = home_later of_second es ys next i kept.seconds later;
    low = omega arith;
  }

  -- the names that are not there yet
  pub no_object : get es i ≡ None
  no_object = at (get es i) refl
    where
      at : (p : Option E) → get es i ≡ p → get es i ≡ None
      at None is = is
      at (Some e) is = absurd (let low = (kept.below i e is).0 in omega arith)

  pub no_first : get xs i ≡ None
  no_first = no_thing of_first es xs next i kept.firsts later

  pub no_second : get ys i ≡ None
  no_second = no_thing of_second es ys next i kept.seconds later

  -- an object is made, which has nothing yet
  pub makes : (e : E) → Good e empty empty → size e ≡ 0 → HallKept of_first of_second Good size (insert es i e) xs ys (i + 1)
  makes e good nothing =
      let keep : (q : ℕ) → IsSome (get es q) → IsSome (get (insert es i e) q) = λ q some. by_put es i e (λ q p. IsSome (get es q) → IsSome p) (λ some. refl) (λ q apart some. some) q some in
      record {
        each = by_put es i e (λ q p. (d : E) → p ≡ Some d → Good d (own of_first q xs) (own of_second q ys))
            (λ d is. let same : e ≡ d = cc in rw (← same, own_absent of_first es xs next i kept.firsts no_object, own_absent of_second es ys next i kept.seconds no_object) good)
            (λ q apart d is. kept.each q d is);
        below = by_put es i e (λ q p. (d : E) → p ≡ Some d → (q < i + 1) × (size d ≤ i + 1))
            (λ d is. let same : e ≡ d = cc in rw (← same) (omega arith, omega arith))
            (λ q apart d is. let low = kept.below q d is in (omega (arith, low.0), omega (arith, low.1)));
        firsts = record { at = λ k x is. (omega (arith, (kept.firsts.at k x is).0), keep (of_first x) (kept.firsts.at k x is).1) };
        seconds = record { at = λ k y is. (omega (arith, (kept.seconds.at k y is).0), keep (of_second y) (kept.seconds.at k y is).1) };
        low = omega arith;
      }

  -- an object is made with a thing of each sort
  pub makes_with : (e : E) (xs' : Names X) (ys' : Names Y) → Moves of_first i i xs xs' → Moves of_second i i ys ys' → Good e (own of_first i xs') (own of_second i ys') → size e ≤ i + 1
      → HallKept of_first of_second Good size (insert es i e) xs' ys' (i + 1)
  makes_with e xs' ys' firsts seconds good bound =
      let keep : (q : ℕ) → IsSome (get es q) → IsSome (get (insert es i e) q) = λ q some. by_put es i e (λ q p. IsSome (get es q) → IsSome p) (λ some. refl) (λ q apart some. some) q some in
      let here : IsSome (get (insert es i e) i) = is_there (get (insert es i e) i) e (get-there es i e) in
      record {
        each = by_put es i e (λ q p. (d : E) → p ≡ Some d → Good d (own of_first q xs') (own of_second q ys'))
            (λ d is. let same : e ≡ d = cc in rw (← same) good)
            (λ q apart d is. rw (moves_elsewhere of_first i i xs xs' firsts q apart, moves_elsewhere of_second i i ys ys' seconds q apart) (kept.each q d is));
        below = by_put es i e (λ q p. (d : E) → p ≡ Some d → (q < i + 1) × (size d ≤ i + 1))
            (λ d is. let same : e ≡ d = cc in rw (← same) (omega arith, bound))
            (λ q apart d is. let low = kept.below q d is in (omega (arith, low.0), omega (arith, low.1)));
        firsts = moves_home of_first es (insert es i e) i i next xs xs' firsts later kept.firsts here keep;
        seconds = moves_home of_second es (insert es i e) i i next ys ys' seconds later kept.seconds here keep;
        low = omega arith;
      }
