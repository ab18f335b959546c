-- how nodes in a slab stand for the queue of a `WaitList`: a ring of links through the sentinel, whose key is 0
use Rattle.std.specs.Prelude.{◌≡◌, ◌≢◌, ℕ, zero, suc, ◌+◌, ◌==◌, List, [], ◌∷◌, map, Option, Some, None, IsSome, is_some, slice_index_or, if◌then◌else◌}
use Rattle.slab.specs.Slab.{Slab, slab_len}
use Rattle.mea_base.specs.declared.links.Node.{Node}
use Rattle.mea_base.specs.WaitList.{IsAbsent, IsDistinct, AllInUse}

-- so many keys from this one on, by the next keys
abbrev pub walk : (ℕ → ℕ) → ℕ → ℕ → List ℕ
walk next zero key = []
walk next (suc count) key = key ∷ walk next count (next key)

-- from a through these keys to z, each names the next one and is named by it
abbrev pub IsChain : (ℕ → ℕ) → (ℕ → ℕ) → ℕ → List ℕ → ℕ → Type 0
IsChain next prev a [] z = (next a ≡ z) × (prev z ≡ a)
IsChain next prev a (k ∷ ks) z = (next a ≡ k) × (prev k ≡ a) × IsChain next prev k ks z

module _ {T : Type 0} where
  -- the node under a key, if there is one
  abbrev pub node_at : List (Option (Node T)) → ℕ → Option (Node T)
  node_at slots k = slice_index_or slots k None

  -- the value of a node, if there is a node and it has one
  abbrev pub value_of : Option (Node T) → Option T
  value_of None = None
  value_of (Some node) = node.value

  -- the next key of a node, and the sentinel's where there is no node
  abbrev pub next_of : Option (Node T) → ℕ
  next_of None = 0
  next_of (Some node) = node.next

  -- the previous key of a node, and the sentinel's where there is no node
  abbrev pub prev_of : Option (Node T) → ℕ
  prev_of None = 0
  prev_of (Some node) = node.prev

  -- the key behind a key
  abbrev pub next_in : List (Option (Node T)) → ℕ → ℕ
  next_in slots k = next_of (node_at slots k)

  -- the key before a key
  abbrev pub prev_in : List (Option (Node T)) → ℕ → ℕ
  prev_in slots k = prev_of (node_at slots k)

  -- the linked keys, first to last, where so many are linked
  abbrev pub order_of : List (Option (Node T)) → ℕ → List ℕ
  order_of slots len = walk (next_in slots) len (next_in slots 0)

  -- the ring goes from the sentinel through these keys and back, each once and with a value. A node off
  -- the ring has a value and points at itself, and there is no node before there is a sentinel
  pub record IsRing (slots : List (Option (Node T))) (order : List ℕ) : Type 0 where
    pub chain : IsChain (next_in slots) (prev_in slots) 0 order 0
    pub distinct : IsDistinct (0 ∷ order)
    pub in_use : AllInUse (map value_of slots) order
    pub no_value : value_of (node_at slots 0) ≡ None
    pub closed : (k : ℕ) → IsSome (node_at slots k) → IsSome (node_at slots 0)
    pub off_ring : (k : ℕ) → k ≢ 0 → IsAbsent k order → IsSome (node_at slots k) → IsSome (value_of (node_at slots k)) × (next_in slots k ≡ k) × (prev_in slots k ≡ k)

  -- the nodes after links were written, which are these now
  pub record Relinks (old new : Slab (Node T)) (next prev : ℕ → ℕ) : Type 0 where
    pub next_is : (k : ℕ) → next_in new.slots k ≡ next k
    pub prev_is : (k : ℕ) → prev_in new.slots k ≡ prev k
    pub values : (k : ℕ) → value_of (node_at new.slots k) ≡ value_of (node_at old.slots k)
    pub nodes : (k : ℕ) → is_some (node_at new.slots k) ≡ is_some (node_at old.slots k)
    pub vacant_key : new.vacant_key ≡ old.vacant_key
    pub len : slab_len new ≡ slab_len old
    pub capacity : new.capacity ≡ old.capacity

  -- the nodes after a value was put under a new key, between two keys
  pub record Inserts (old new : Slab (Node T)) (prev next key : ℕ) (value : T) : Type 0 where
    pub vacant : node_at old.slots key ≡ None
    pub next_is : (k : ℕ) → next_in new.slots k ≡ (if k == prev then key else if k == key then next else next_in old.slots k)
    pub prev_is : (k : ℕ) → prev_in new.slots k ≡ (if k == next then key else if k == key then prev else prev_in old.slots k)
    pub changed : value_of (node_at new.slots key) ≡ Some value
    pub values : (k : ℕ) → k ≢ key → value_of (node_at new.slots k) ≡ value_of (node_at old.slots k)
    pub nodes : (k : ℕ) → k ≢ key → is_some (node_at new.slots k) ≡ is_some (node_at old.slots k)
    pub len : slab_len new ≡ slab_len old + 1
    pub capacity : new.capacity ≡ old.capacity

  -- the same queue, whether the sentinel was there or has been made
  pub record SameQueue (old new : List (Option (Node T))) : Type 0 where
    pub next_is : (k : ℕ) → next_in new k ≡ next_in old k
    pub prev_is : (k : ℕ) → prev_in new k ≡ prev_in old k
    pub values : (k : ℕ) → value_of (node_at new k) ≡ value_of (node_at old k)
    pub others : (k : ℕ) → k ≢ 0 → node_at new k ≡ node_at old k
