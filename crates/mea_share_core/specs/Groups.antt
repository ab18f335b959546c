-- the groups of a core: each key with what it has
use Rattle.std.specs.Prelude.{ℕ, ◌≡◌, ◌+◌, ◌*◌, ◌<◌, ◌⊎◌, Bool, true, cond, List, Option, Some, None, slice_get, get_or}
use Rattle.std.specs.Option.{unwrap_or}
use Rattle.std.specs.List.{sum_by}
use Rattle.std.specs.Map.{lookup}
use Rattle.std.specs.Coded.{Coded, coded×, coded_list}
use Rattle.std.specs.FinMap as map
use Rattle.mea_share_core.specs.declared.rank.Rank.{Rank}
use Rattle.mea_share_core.specs.Share.{Share, share_code, new_share, held_of, waiting_of, IsWaiting, IsAdmitted, IsOldest, admitting}

abbrev pub groups_code : {K W : Type 0} → Coded K → Coded W → Coded (List (K × Share W))
groups_code k w = coded_list (coded× k (share_code w))

-- the rank of a share of which someone waits
pub record IsRank {W : Type 0} (place : ℕ) (s : Share W) (r : Rank) : Type 0 where
  pub held : r.held ≡ held_of s
  pub weight : r.weight ≡ s.weight
  pub group : r.group ≡ place
  pub oldest : IsOldest s r.sequence

module _ {K W : Type 0} where
  -- what all keys hold together
  abbrev pub held_in : List (K × Share W) → ℕ
  held_in es = sum_by {X = K × Share W} (λ e. held_of e.1) es

  -- how many wait of all keys together
  abbrev pub waiting_in : List (K × Share W) → ℕ
  waiting_in es = sum_by {X = K × Share W} (λ e. waiting_of e.1) es

  -- a group has a rank where someone waits
  abbrev pub Ranks : ℕ → Option (K × Share W) → Option Rank → Type 0
  Ranks place None r = r ≡ None
  Ranks place (Some e) None = e.1.waiting ≡ map.empty
  Ranks place (Some e) (Some r) = IsRank place e.1 r

  -- each group has its rank at its place, but perhaps one
  abbrev pub AreRankedBut : ℕ → List (K × Share W) → List (Option Rank) → Type 0
  AreRankedBut but es leaves = (p : ℕ) → (p ≡ but → ⊥) → Ranks p (slice_get es p) (get_or leaves p None)

  abbrev pub AreRanked : List (K × Share W) → List (Option Rank) → Type 0
  AreRanked es leaves = (p : ℕ) → Ranks p (slice_get es p) (get_or leaves p None)

-- the first waiter is admitted before the second: its key holds less for its weight, by cross products, or as much and it
-- waits longer
abbrev pub IsBefore : {W : Type 0} → Share W → ℕ → Share W → ℕ → Type 0
IsBefore s n t m = (held_of s * t.weight < held_of t * s.weight) ⊎ ((held_of s * t.weight ≡ held_of t * s.weight) × (n < m))

-- the numbers of a share are below the next, and none of them both waits and is admitted
pub record IsNumbered {W : Type 0} (next : ℕ) (s : Share W) : Type 0 where
  pub waiting : (n : ℕ) → IsWaiting s n → n < next
  pub admitted : (n : ℕ) → IsAdmitted s n → n < next
  pub apart : (n : ℕ) → IsWaiting s n → map.get s.admitted n ≡ None

module _ {K W : Type 0} (eq : K → K → Bool) where
  -- what a key has
  abbrev pub share_in : List (K × Share W) → K → Share W
  share_in es k = unwrap_or (lookup (eq k) es) new_share

  -- each key has what it had
  pub record IsAlike (es es' : List (K × Share W)) : Type 0 where
    pub shares : (k : K) → share_in es' k ≡ share_in es k
    pub held : held_in es' ≡ held_in es
    pub waiting : waiting_in es' ≡ waiting_in es

  -- a key has this now, and each other what it had
  pub record Sets (es es' : List (K × Share W)) (k : K) (s : Share W) : Type 0 where
    pub shares : (other : K) → share_in es' other ≡ cond (eq k other) s (share_in es other)
    pub held : held_in es' + held_of (share_in es k) ≡ held_in es + held_of s
    pub waiting : waiting_in es' + waiting_of (share_in es k) ≡ waiting_in es + waiting_of s

  -- a key has its group at this place
  abbrev pub StandsAt : List (K × Share W) → ℕ → K → Type 0
  StandsAt es place k = (e : K × Share W) × (slice_get es place ≡ Some e) × (eq k e.0 ≡ true)

  -- a waiter is next: it waits, and nobody who waits is admitted before it
  pub record IsNextOf (es : List (K × Share W)) (k : K) (n : ℕ) : Type 0 where
    pub waits : IsWaiting (share_in es k) n
    pub least : (other : K) (m : ℕ) → IsWaiting (share_in es other) m → ¬ (IsBefore (share_in es other) m (share_in es k) n)

  -- a rank is that of the key that is next
  pub record Leads (es : List (K × Share W)) (r : Rank) : Type 0 where
    pub key : K
    pub stands : StandsAt es r.group key
    pub next : IsNextOf es key r.sequence

  -- who is next is admitted, and its waker is told
  pub record Admits (es es' : List (K × Share W)) (w : W) : Type 0 where
    pub key : K
    pub number : ℕ
    pub next : IsNextOf es key number
    pub waker : map.get (share_in es key).waiting number ≡ Some w
    pub sets : Sets es es' key (admitting (share_in es key) number)

  -- those of every key are
  abbrev pub AreNumbered : ℕ → List (K × Share W) → Type 0
  AreNumbered next es = (k : K) → IsNumbered next (share_in es k)
