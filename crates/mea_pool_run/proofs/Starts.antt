-- a pool that is new
use Rattle.std.proofs.Common.{◌≡◌, ℕ, ◌+◌, false, List, [], Option, Some, None, length, refl, ap, sym, subst, ◌∙◌, arith}
use Rattle.std.specs.Ordering.{nat_cmp}
use Rattle.std.specs.FinMap as map
use Rattle.std.specs.FinMap.{get, empty, get-empty, len-empty}
use Rattle.mea_by_name.specs.declared.named_waker.NamedWaker.{NamedWaker}
use Rattle.mea_by_name.specs.ByName.{Names}
use Rattle.mea_by_name.proofs.Own.{seen-empty}
use Rattle.mea_family.specs.declared.stop.Stop.{Stop}
use Rattle.mea_script.specs.Runs.{IsCause}
use Rattle.mea_pool_core.specs.Pool.{Pool, fresh}
use Rattle.mea_pool_core.specs.Shelf.{lent_count, none_lent, slots_below}
use Rattle.mea_pool_core.proofs.Shelves.{length_below, length_none, count_none}
use Rattle.mea_pool_run.specs.declared.thing.Thing.{Thing}
use Rattle.mea_pool_run.specs.PoolByName.{begun}
use Rattle.mea_pool_run.specs.Kept.{live_of, pool_by_name, asked, awaited, held, IsGoing, IsMet, IsTold, Linked, Stands, AreBelow}
use Rattle.mea_pool_run.specs.Script.{pool_rules}
use Rattle.mea_pool_run.proofs.Linking.{none_some}
use Rattle.mea_pool_run.proofs.Polls.{pool_path}

abbrev no_things : Names Thing
no_things = empty

-- nothing is told of a name
module _ (told : Option Thing → Option ℕ) (nothing : told None ≡ None) where
  untold : (f n : ℕ) → told (get no_things f) ≡ Some n → ⊥
  untold f n is = none_some (told (get no_things f)) n (ap told (get-empty nat_cmp f) ∙ nothing) is

  nobody_linked : (Else : ℕ → Type 0) → Linked (λ f. told (get no_things f)) [] Else
  nobody_linked Else = record {
    named = tt;
    apart = tt;
    single = λ f g n is. absurd (untold f n is);
    home = λ f n is. absurd (untold f n is);
  }

pub starts : (size : ℕ) (numbers : List ℕ) (p : Pool ℕ NamedWaker) → numbers ≡ slots_below size → p ≡ fresh numbers → pool_by_name p no_things ≡ begun size
starts size numbers p all is =
    ap (λ (q : Pool ℕ NamedWaker). pool_by_name q no_things) (is ∙ ap (λ (ns : List ℕ). fresh {R = ℕ} {W = NamedWaker} ns) all)
    ∙ pool_path (pool_by_name (fresh (slots_below size)) no_things) (begun size)
    (length_none (length (slots_below size)) ∙ length_below size)
    (none_taken (length (slots_below size)))
    refl (seen-empty (live_of empty)) refl refl refl
  where
    none_taken : (n : ℕ) → lent_count (none_lent n) + map.len (empty {X = ℕ} {R = nat_cmp}) ≡ 0
    none_taken n = let lent = count_none n in let granted = len-empty nat_cmp ℕ in omega arith

pub stands_new : (numbers : List ℕ) (p : Pool ℕ NamedWaker) → p ≡ fresh numbers → Stands p no_things
stands_new numbers p is = subst (λ (q : Pool ℕ NamedWaker). Stands q no_things) (sym is) (record {
  keeps = record {
    going = λ f. subst IsGoing (sym (get-empty nat_cmp f)) tt;
    asking = record {
      linked = nobody_linked asked refl (IsMet empty empty false);
      ungranted = λ n some. absurd (cc);
      all_cut = λ draining. refl;
    };
    lending = record {
      out = λ f slot at. absurd (untold held refl f slot at);
      once = λ f g slot at. absurd (untold held refl f slot at);
    };
    ending = record {
      linked = nobody_linked awaited refl (IsTold empty false);
      all_told = λ drained. refl;
    };
  };
  quiet = refl;
})

pub none_below : (n : ℕ) → AreBelow no_things n
none_below n k high = get-empty nat_cmp k

-- no event has a cause for refusal
pub no_cause : (stop : Stop) → IsCause pool_rules stop → ⊥
no_cause stop caused = absurd (let no : ◌≡◌ {A = Option Stop} None (Some stop) = caused.2 in cc)
