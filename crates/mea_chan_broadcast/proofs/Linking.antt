-- the futures of broadcast channels and those who wait go together, after an event at one channel
use Rattle.std.proofs.Common.{◌≡◌, ℕ, ◌+◌, ◌≤◌, [], ◌∷◌, Some, sym, subst, ◌∙◌, arith}
use Rattle.std.specs.Ordering.{nat_cmp}
use Rattle.std.specs.FinMap.{get, insert, remove, empty, get-empty}
use Rattle.mea_base.proofs.Maps.{by_put, by_gone, inside, removed_there}
use Rattle.mea_by_name.specs.ByName.{Names, seen, own}
use Rattle.mea_by_name.proofs.Own.{Moves, moves_elsewhere, seen-back}
use Rattle.mea_cores_by_name.specs.SetLinked.{SetLinked}
use Rattle.mea_cores_by_name.proofs.Sets.{linked_later}
use Rattle.mea_chan_broadcast.specs.declared.broadcast_entry.BroadcastEntry.{BroadcastEntry}
use Rattle.mea_chan_broadcast.specs.declared.recv_entry.RecvEntry.{RecvEntry}
use Rattle.mea_chan_broadcast.specs.BroadcastParts.{of_channel, slots_of, AreLinked}

module _ (es : Names BroadcastEntry) (ys : Names RecvEntry) (n i : ℕ) (links : AreLinked es ys n) (later : n ≤ i) where
  pub links_rest : AreLinked es ys (i + 1)
  links_rest = record { linked = λ o e is. linked_later e.core.waiting (slots_of o ys) n (i + 1) (links.linked o e is) (omega (arith, later)); quiet = links.quiet }

  module _ (o : ℕ) (ys' : Names RecvEntry) (moves : Moves of_channel o i ys ys') where
    elsewhere : (q : ℕ) (e : BroadcastEntry) → (o ≡ q → ⊥) → get es q ≡ Some e → SetLinked e.core.waiting (slots_of q ys') (i + 1)
    elsewhere q e apart is = linked_later e.core.waiting (slots_of q ys') n (i + 1) (subst (λ m. SetLinked e.core.waiting (seen (λ (y : RecvEntry). y.wait) m) n) (sym (moves_elsewhere of_channel o i ys ys' moves q apart)) (links.linked q e is)) (omega (arith, later))

    -- the channel is e' now
    pub links_turned : (e' : BroadcastEntry) → SetLinked e'.core.waiting (slots_of o ys') (i + 1) → e'.core.wakes ≡ [] → AreLinked (insert es o e') ys' (i + 1)
    links_turned e' linked quiet = record {
      linked = by_put es o e' (λ q p. (e : BroadcastEntry) → p ≡ Some e → SetLinked e.core.waiting (slots_of q ys') (i + 1))
          (λ e is. subst (λ (e : BroadcastEntry). SetLinked e.core.waiting (slots_of o ys') (i + 1)) (inside is) linked) (λ q apart e is. elsewhere q e apart is);
      quiet = by_put es o e' (λ q p. (e : BroadcastEntry) → p ≡ Some e → e.core.wakes ≡ []) (λ e is. subst (λ (e : BroadcastEntry). e.core.wakes ≡ []) (inside is) quiet) (λ q apart e is. links.quiet q e is);
    }

    -- or gone
    pub links_gone : AreLinked (remove es o) ys' (i + 1)
    links_gone = record {
      linked = by_gone es o (λ q p. (e : BroadcastEntry) → p ≡ Some e → SetLinked e.core.waiting (slots_of q ys') (i + 1)) (λ e is. absurd (cc)) (λ q apart e is. elsewhere q e apart is);
      quiet = λ q e is. links.quiet q e (removed_there es o q e is);
    }

-- a new set, where nothing is of its channel
pub fresh_linked : (o n : ℕ) (ys : Names RecvEntry) → own of_channel o ys ≡ empty → SetLinked (record { wakers = []; drains = 0 }) (slots_of o ys) n
fresh_linked o n ys none = subst (λ m. SetLinked (record { wakers = []; drains = 0 }) (seen (λ (y : RecvEntry). y.wait) m) n) (sym none)
    (record { each = λ f slot there. absurd (let it = seen-back (λ (y : RecvEntry). y.wait) empty f slot there in let nothing = get-empty {X = RecvEntry} nat_cmp f in let no = sym nothing ∙ it.1 in cc); below = tt })
