-- what holds of every hall that events reach
use Rattle.std.proofs.Common.{◌≡◌, ℕ, ◌+◌, ◌<◌, ◌≤◌, ◌==◌, ◌&&◌, ◌⊎◌, inl, inr, cond, List, Option, Some, None, refl, ap, sym, subst, ◌∙◌, arith}
use Rattle.std.specs.FinMap.{get, insert, remove, empty}
use Rattle.std.proofs.lemmas.Bool.{ne_eqb}
use Rattle.mea_family.specs.Family.{IsRun, RunOf, Starts, Goes}
use Rattle.mea_base.proofs.Maps.{by_put, by_gone, get-there, get-other, get-removed_other, value_in, inside, removed_there, nothing_at, nothing_there, at-empty}
use Rattle.mea_base.proofs.Tests.{by_name}
use Rattle.mea_base.proofs.Totals.{total-zero}
use Rattle.mea_by_name.specs.ByName.{Names, count}
use Rattle.mea_by_name.proofs.OneObject.{IsBelow, below_put, below_gone, below_later}
use Rattle.mea_share_core.specs.Share.{Share, new_share}
use Rattle.mea_share_model.specs.Next.{share_at}
use Rattle.mea_share_model.specs.Admissions.{Admission, ShareFuture, SharePermit, ShareHall, empty_hall, new_admission}
use Rattle.mea_share_model.specs.Actions.{Action, cause_in, act_in, registers_in}
use Rattle.mea_share_model.specs.Meaning.{meaning_of}
use Rattle.mea_share_model.specs.ShareFamily.{shares_family}
use Rattle.mea_share_model.specs.Valid.{is_of, HasNumber, HasAt, AreValid}
use Rattle.mea_share_model.proofs.Acting.{AdmissionsGo, Same, Put, Made, Gone, FuturesGo, Kept, Begun, Queued, Ended, PermitsGo, Stay, Come, Leave, Acts, acts, none_next}

-- all names are below n, and so are the admissions of futures and permits
pub record AreLow (h : ShareHall) (n : ℕ) : Type 0 where
  pub admissions : IsBelow h.admissions n
  pub futures : (f : ℕ) (x : ShareFuture) → get h.futures f ≡ Some x → (f < n) × (x.admission < n)
  pub permits : (p : ℕ) (x : SharePermit) → get h.permits p ≡ Some x → (p < n) × (x.admission < n)

absent : {X : Type 0} (m : Names X) (i : ℕ) → ((x : X) → get m i ≡ Some x → ⊥) → get m i ≡ None
absent {X} m i none = at (get m i) refl
  where
    at : (o : Option X) → get m i ≡ o → get m i ≡ None
    at None is = is
    at (Some x) is = absurd (none x is)

none_empty : (k n : ℕ) → HasNumber (share_at empty k) n → ⊥
none_empty k n has = at (subst (λ s. HasNumber s n) (at-empty new_share k) has)
  where
    at : HasNumber (new_share {W = ℕ}) n → ⊥
    at (inl waits) = nothing_there ℕ n waits
    at (inr was) = nothing_there (Unit {0}) n was

module _ (h : ShareHall) (n i : ℕ) (low : AreLow h n) (later : n ≤ i) where
  pub no_admission : get h.admissions i ≡ None
  no_admission = absent h.admissions i (λ r is. absurd (let small = low.admissions.at i r is in omega (arith, small, later)))

  pub no_future : get h.futures i ≡ None
  no_future = absent h.futures i (λ x is. absurd (let small = (low.futures i x is).0 in omega (arith, small, later)))

  pub no_permit : get h.permits i ≡ None
  no_permit = absent h.permits i (λ x is. absurd (let small = (low.permits i x is).0 in omega (arith, small, later)))

  of_none : (k : ℕ) → count (is_of i k) h.permits ≡ 0
  of_none k = total-zero (λ q x. cond (is_of i k x) 1 0) h.permits (λ q x is.
      ap (λ b. cond (b && (x.key == k)) 1 0) (ne_eqb x.admission i (λ same. absurd (let small = (low.permits q x is).1 in omega (arith, small, later, same)))))

  module _ (valid : AreValid h) (a : Action) (none : cause_in h a ≡ None) where
    pub did : Acts h i a (cond (registers_in a) 1 0) (act_in h i a)
    did = acts h i valid no_future no_permit a

    -- ---- names
    low_admissions : (f extra : ℕ) (xs : Names ShareFuture) (ps : Names SharePermit) (rs : Names Admission) (ws : List ℕ) → AdmissionsGo h i f extra xs ps rs ws → IsBelow rs (i + 1)
    low_admissions f extra xs ps _ _ (Same counts) = below_later h.admissions n i low.admissions later
    low_admissions f extra xs ps _ _ (Put o r r' s l ws more less there change touch loses here elsewhere) = below_put h.admissions n i o r' low.admissions later (let small = low.admissions.at o r there in omega (arith, small, later))
    low_admissions f extra xs ps _ _ (Made m same) = below_put h.admissions n i i (new_admission m) low.admissions later (omega arith)
    low_admissions f extra xs ps _ _ (Gone o r r' ws there few alone elsewhere) = below_gone h.admissions n i o low.admissions later

    low_futures : (f : ℕ) (rs : Names Admission) (xs : Names ShareFuture) → FuturesGo h i a f rs xs → (g : ℕ) (x : ShareFuture) → get xs g ≡ Some x → (g < i + 1) × (x.admission < i + 1)
    low_futures f rs _ Kept g x is = let small = low.futures g x is in (omega (arith, small.0, later), omega (arith, small.1, later))
    low_futures f rs _ (Begun y new known) g x is = by_put h.futures i y (λ g o. o ≡ Some x → (g < i + 1) × (x.admission < i + 1))
        (λ is. let same : y.admission ≡ x.admission = ap (λ (z : ShareFuture). z.admission) (inside is) in let r = value_in (get h.admissions y.admission) (known none) in let small = low.admissions.at y.admission r.0 r.1 in (omega arith, omega (arith, same, small, later)))
        (λ g apart is. let small = low.futures g x is in (omega (arith, small.0, later), omega (arith, small.1, later))) g is
    low_futures f rs _ (Queued y r was there has) g x is = by_put h.futures f (record y { number = Some r.next }) (λ g o. o ≡ Some x → (g < i + 1) × (x.admission < i + 1))
        (λ is. let same : y.admission ≡ x.admission = ap (λ (z : ShareFuture). z.admission) (inside is) in let small = low.futures f y was in (omega (arith, small.0, later), omega (arith, same, small.1, later)))
        (λ g apart is. let small = low.futures g x is in (omega (arith, small.0, later), omega (arith, small.1, later))) g is
    low_futures f rs _ Ended g x is = let small = low.futures g x (removed_there h.futures f g x is) in (omega (arith, small.0, later), omega (arith, small.1, later))

    low_permits : (ps : Names SharePermit) → PermitsGo h i ps → (p : ℕ) (x : SharePermit) → get ps p ≡ Some x → (p < i + 1) × (x.admission < i + 1)
    low_permits _ Stay p x is = let small = low.permits p x is in (omega (arith, small.0, later), omega (arith, small.1, later))
    low_permits _ (Come y known) p x is = by_put h.permits i y (λ p o. o ≡ Some x → (p < i + 1) × (x.admission < i + 1))
        (λ is. let same : y.admission ≡ x.admission = ap (λ (z : SharePermit). z.admission) (inside is) in let r = value_in (get h.admissions y.admission) known in let small = low.admissions.at y.admission r.0 r.1 in (omega arith, omega (arith, same, small, later)))
        (λ p apart is. let small = low.permits p x is in (omega (arith, small.0, later), omega (arith, small.1, later))) p is
    low_permits _ (Leave k) p x is = let small = low.permits p x (removed_there h.permits k p x is) in (omega (arith, small.0, later), omega (arith, small.1, later))

    pub low_after : AreLow (act_in h i a).hall (i + 1)
    low_after = record {
      admissions = low_admissions did.f _ _ _ _ _ did.admissions;
      futures = low_futures did.f _ _ did.futures;
      permits = low_permits _ did.permits;
    }

    -- ---- numbers
    below_after : (f extra : ℕ) (xs : Names ShareFuture) (ps : Names SharePermit) (rs : Names Admission) (ws : List ℕ) → AdmissionsGo h i f extra xs ps rs ws
        → (o : ℕ) (r : Admission) → get rs o ≡ Some r → (k m : ℕ) → HasNumber (share_at r.shares k) m → m < r.next
    below_after f extra xs ps _ _ (Same counts) o r is k m has = valid.below o r is k m has
    below_after f extra xs ps _ _ (Put p q q' s l ws more less there change touch loses here elsewhere) o r is k m has =
        by_put h.admissions p q' (λ o t. t ≡ Some r → m < r.next)
        (λ is. let same : q' ≡ r = inside is in subst (λ t. m < t.next) same (at (change.had k m (subst (λ t. HasNumber (share_at t.shares k) m) (sym same) has))))
        (λ o apart is. valid.below o r is k m has) o is
      where
        at : HasNumber (share_at q.shares k) m ⊎ ((m ≡ q.next) × (q.next < q'.next) × (k ≡ change.fresh)) → m < q'.next
        at (inl old) = let small = valid.below p q there k m old in omega (arith, small, change.up)
        at (inr new) = let a = new.0 in let b = new.1 in omega (arith, a, b)
    below_after f extra xs ps _ _ (Made c same) o r is k m has =
        by_put h.admissions i (new_admission c) (λ o t. t ≡ Some r → m < r.next)
        (λ is. absurd (none_empty k m (subst (λ t. HasNumber (share_at t.shares k) m) (sym (inside is)) has)))
        (λ o apart is. valid.below o r is k m has) o is
    below_after f extra xs ps _ _ (Gone p q q' ws there few alone elsewhere) o r is k m has = valid.below o r (removed_there h.admissions p o r is) k m has

    once_after : (f extra : ℕ) (xs : Names ShareFuture) (ps : Names SharePermit) (rs : Names Admission) (ws : List ℕ) → AdmissionsGo h i f extra xs ps rs ws
        → (o : ℕ) (r : Admission) → get rs o ≡ Some r → (k j m : ℕ) → HasNumber (share_at r.shares k) m → HasNumber (share_at r.shares j) m → k ≡ j
    once_after f extra xs ps _ _ (Same counts) o r is k j m first second = valid.once o r is k j m first second
    once_after f extra xs ps _ _ (Put p q q' s l ws more less there change touch loses here elsewhere) o r is k j m first second =
        by_put h.admissions p q' (λ o t. t ≡ Some r → k ≡ j)
        (λ is. let same : q' ≡ r = inside is in
        at (change.had k m (subst (λ t. HasNumber (share_at t.shares k) m) (sym same) first)) (change.had j m (subst (λ t. HasNumber (share_at t.shares j) m) (sym same) second)))
        (λ o apart is. valid.once o r is k j m first second) o is
      where
        at : HasNumber (share_at q.shares k) m ⊎ ((m ≡ q.next) × (q.next < q'.next) × (k ≡ change.fresh)) → HasNumber (share_at q.shares j) m ⊎ ((m ≡ q.next) × (q.next < q'.next) × (j ≡ change.fresh)) → k ≡ j
        at (inl a) (inl b) = valid.once p q there k j m a b
        at (inl a) (inr b) = absurd (let small = valid.below p q there k m a in let new = b.0 in omega (arith, small, new))
        at (inr a) (inl b) = absurd (let small = valid.below p q there j m b in let new = a.0 in omega (arith, small, new))
        at (inr a) (inr b) = a.2 ∙ sym b.2
    once_after f extra xs ps _ _ (Made c same) o r is k j m first second =
        by_put h.admissions i (new_admission c) (λ o t. t ≡ Some r → k ≡ j)
        (λ is. absurd (none_empty k m (subst (λ t. HasNumber (share_at t.shares k) m) (sym (inside is)) first)))
        (λ o apart is. valid.once o r is k j m first second) o is
    once_after f extra xs ps _ _ (Gone p q q' ws there few alone elsewhere) o r is k j m first second = valid.once o r (removed_there h.admissions p o r is) k j m first second

    -- a future that lives on has its number
    has_after : (f extra : ℕ) (xs : Names ShareFuture) (ps : Names SharePermit) (rs : Names Admission) (ws : List ℕ) → AdmissionsGo h i f extra xs ps rs ws
        → (g : ℕ) (z : ShareFuture) (m : ℕ) → get h.futures g ≡ Some z → get xs g ≡ Some z → z.number ≡ Some m → HasAt (get rs z.admission) z.key m
    has_after f extra xs ps _ _ (Same counts) g z m was is of = valid.there g z m was of
    has_after f extra xs ps _ _ (Put p q q' s l ws more less there change touch loses here elsewhere) g z m was is of =
        by_put h.admissions p q' (λ o t. o ≡ z.admission → HasAt (get h.admissions o) z.key m → HasAt t z.key m)
        (λ mine has. change.has z.key m (λ lost. absurd (let gone = loses g z m was mine of lost in cc)) (subst (λ t. HasAt t z.key m) there has))
        (λ o apart mine has. has) z.admission refl (valid.there g z m was of)
    has_after f extra xs ps _ _ (Made c same) g z m was is of =
        by_put h.admissions i (new_admission c) (λ o t. HasAt (get h.admissions o) z.key m → HasAt t z.key m)
        (λ has. absurd (subst (λ t. HasAt t z.key m) no_admission has))
        (λ o apart has. has) z.admission (valid.there g z m was of)
    has_after f extra xs ps _ _ (Gone p q q' ws there few alone elsewhere) g z m was is of =
        subst (λ t. HasAt t z.key m) (sym (get-removed_other h.admissions p z.admission (λ mine. alone g z is mine))) (valid.there g z m was of)

    there_after : (f extra : ℕ) (ps : Names SharePermit) (rs : Names Admission) (ws : List ℕ) (xs : Names ShareFuture) → AdmissionsGo h i f extra xs ps rs ws → FuturesGo h i a f rs xs
        → (g : ℕ) (z : ShareFuture) (m : ℕ) → get xs g ≡ Some z → z.number ≡ Some m → HasAt (get rs z.admission) z.key m
    there_after f extra ps rs ws _ went Kept g z m is of = has_after f extra h.futures ps rs ws went g z m is is of
    there_after f extra ps rs ws _ went (Begun y new known) g z m is of = by_name i g
        (λ same. absurd (let here : y ≡ z = inside (sym (get-there h.futures i y) ∙ ap (get (insert h.futures i y)) same ∙ is) in let number : y.number ≡ z.number = ap (λ (t : ShareFuture). t.number) here in cc))
        (λ apart. has_after f extra (insert h.futures i y) ps rs ws went g z m (sym (get-other h.futures i g y apart) ∙ is) is of)
    there_after f extra ps rs ws _ went (Queued y r was there has) g z m is of = by_name f g
        (λ same.
        let here : record y { number = Some r.next } ≡ z = inside (sym (get-there h.futures f (record y { number = Some r.next })) ∙ ap (get (insert h.futures f (record y { number = Some r.next }))) same ∙ is) in
        let number : r.next ≡ m = inside (ap (λ (t : ShareFuture). t.number) here ∙ of) in
        subst (λ t. HasAt (get rs z.admission) z.key t) number (subst (λ (t : ShareFuture). HasAt (get rs t.admission) t.key r.next) here has))
        (λ apart. has_after f extra (insert h.futures f (record y { number = Some r.next })) ps rs ws went g z m (sym (get-other h.futures f g (record y { number = Some r.next }) apart) ∙ is) is of)
    there_after f extra ps rs ws _ went Ended g z m is of = has_after f extra (remove h.futures f) ps rs ws went g z m (removed_there h.futures f g z is) is of

    no_number : (m : ℕ) → ◌≡◌ {A = Option ℕ} None (Some m) → ⊥
    no_number m is = absurd (cc)

    apart_after : (f : ℕ) (rs : Names Admission) (xs : Names ShareFuture) → FuturesGo h i a f rs xs
        → (g j : ℕ) (x y : ShareFuture) (m : ℕ) → get xs g ≡ Some x → get xs j ≡ Some y → x.admission ≡ y.admission → x.number ≡ Some m → y.number ≡ Some m → g ≡ j
    apart_after f rs _ Kept g j x y m first second same one two = valid.apart g j x y m first second same one two
    apart_after f rs _ (Begun z new known) g j x y m first second same one two =
        valid.apart g j x y m (old g x first one) (old j y second two) same one two
      where
        old : (k : ℕ) (v : ShareFuture) → get (insert h.futures i z) k ≡ Some v → v.number ≡ Some m → get h.futures k ≡ Some v
        old k v is of = by_put h.futures i z (λ k o. o ≡ Some v → get h.futures k ≡ Some v)
            (λ here. absurd (no_number m (sym new ∙ ap (λ (t : ShareFuture). t.number) (inside here) ∙ of))) (λ k apart there. there) k is
    apart_after f rs _ (Queued z r was there has) g j x y m first second same one two = by_name f g
        (λ here. by_name f j (λ too. sym here ∙ too) (λ apart. absurd (fresh g x j y first second here apart same one two)))
        (λ apart. by_name f j (λ here. absurd (fresh j y g x second first here apart (sym same) two one))
        (λ other. valid.apart g j x y m (sym (get-other h.futures f g _ apart) ∙ first) (sym (get-other h.futures f j _ other) ∙ second) same one two))
      where
        fresh : (a : ℕ) (u : ShareFuture) (b : ℕ) (v : ShareFuture) → get (insert h.futures f (record z { number = Some r.next })) a ≡ Some u → get (insert h.futures f (record z { number = Some r.next })) b ≡ Some v
            → f ≡ a → (f ≡ b → ⊥) → u.admission ≡ v.admission → u.number ≡ Some m → v.number ≡ Some m → ⊥
        fresh a u b v isa isb here apart same one two =
            let mine : record z { number = Some r.next } ≡ u = inside (sym (get-there h.futures f (record z { number = Some r.next })) ∙ ap (get (insert h.futures f (record z { number = Some r.next }))) here ∙ isa) in
            none_next h valid z.admission r there b v m (sym (get-other h.futures f b (record z { number = Some r.next }) apart) ∙ isb) (ap (λ (t : ShareFuture). t.admission) mine ∙ same) two
            (inside (ap (λ (t : ShareFuture). t.number) mine ∙ one))
    apart_after f rs _ Ended g j x y m first second same one two = valid.apart g j x y m (removed_there h.futures f g x first) (removed_there h.futures f j y second) same one two

    living_after : (f extra : ℕ) (xs : Names ShareFuture) (ps : Names SharePermit) (rs : Names Admission) (ws : List ℕ) → AdmissionsGo h i f extra xs ps rs ws
        → (o k : ℕ) (r : Admission) → get rs o ≡ Some r → (share_at r.shares k).living ≡ count (is_of o k) ps
    living_after f extra xs ps _ _ (Same counts) o k r is = valid.living o k r is ∙ sym (counts o k)
    living_after f extra xs ps _ _ (Put p q q' s l ws more less there change touch loses here elsewhere) o k r is =
        by_put h.admissions p q' (λ o t. t ≡ Some r → (share_at r.shares k).living ≡ count (is_of o k) ps)
        (λ is. subst (λ t. (share_at t.shares k).living ≡ count (is_of p k) ps) (inside is) (let old = valid.living p k q there in omega (arith, old, change.living k, here k)))
        (λ o apart is. valid.living o k r is ∙ sym (elsewhere o k apart)) o is
    living_after f extra xs ps _ _ (Made c same) o k r is =
        by_put h.admissions i (new_admission c) (λ o t. t ≡ Some r → (share_at r.shares k).living ≡ count (is_of o k) ps)
        (λ is. sym (ap (λ (t : Admission). (share_at t.shares k).living) (inside is)) ∙ ap (λ (s : Share ℕ). s.living) (at-empty new_share k) ∙ sym (ap (count (is_of i k)) same ∙ of_none k))
        (λ o apart is. valid.living o k r is ∙ sym (ap (count (is_of o k)) same)) o is
    living_after f extra xs ps _ _ (Gone p q q' ws there few alone elsewhere) o k r is =
        by_gone h.admissions p (λ o t. t ≡ Some r → (share_at r.shares k).living ≡ count (is_of o k) ps) (λ is. absurd (cc)) (λ o apart is. valid.living o k r is ∙ sym (elsewhere o k apart)) o is

    pub valid_after : AreValid (act_in h i a).hall
    valid_after = record {
      below = below_after did.f _ _ _ _ _ did.admissions;
      once = once_after did.f _ _ _ _ _ did.admissions;
      there = there_after did.f _ _ _ _ _ did.admissions did.futures;
      apart = apart_after did.f _ _ did.futures;
      living = living_after did.f _ _ _ _ _ did.admissions;
    }

-- ---- runs
pub low_start : AreLow empty_hall 0
low_start = record {
  admissions = record { at = λ k r is. absurd (nothing_at Admission k r is) };
  futures = λ f x is. absurd (nothing_at ShareFuture f x is);
  permits = λ p x is. absurd (nothing_at SharePermit p x is);
}

pub valid_start : AreValid empty_hall
valid_start = record {
  below = λ o r is k n has. absurd (nothing_at Admission o r is);
  once = λ o r is k j n first second. absurd (nothing_at Admission o r is);
  there = λ f x n is number. absurd (nothing_at ShareFuture f x is);
  apart = λ f g x y n first second same one two. absurd (nothing_at ShareFuture f x first);
  living = λ o k r is. absurd (nothing_at Admission o r is);
}

pub reached : (r : RunOf shares_family) → IsRun shares_family r → AreLow r.hall r.next × AreValid r.hall
reached _ Starts = (low_start, valid_start)
reached _ (Goes r i e runs later none) =
    let before = reached r runs in
    (low_after r.hall r.next i before.0 later before.1 (meaning_of e) none, valid_after r.hall r.next i before.0 later before.1 (meaning_of e) none)
