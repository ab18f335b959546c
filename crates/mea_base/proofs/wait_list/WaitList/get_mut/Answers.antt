use Rattle.std.proofs.Common.{slice_set, Some, refl, sym, ap, ◌∙◌, arith}
use Rattle.std.specs.Option.{option_copied_mut}
use Rattle.mea_base.proofs.WaitLinks.{used_node, node_behind, get_view, after_write, slots_written, sentinel_kept, count_kept, any_key}
use Rattle.mea_base.proofs.wait_list.WaitList.get_mut.Goals as goal

pub index_mut-requires : goal.index_mut-requires
index_mut-requires g c = node_behind _ (used_node c.self.inside.nodes.slots c.args.number (rw (← c.self.view_is) at c.requires))

pub unwrap-requires : goal.unwrap-requires
unwrap-requires g c =
    let used = used_node c.self.inside.nodes.slots c.args.number (rw (← c.self.view_is) at c.requires) in
    c.as_mut.ensures.variant ∙ (rw c.index_mut.ensures.value at used)

pub invariant_of-self-lent : goal.invariant_of-self-lent
invariant_of-self-lent g c =
    let used = used_node c.self.inside.nodes.slots c.args.number (rw (← c.self.view_is) at c.requires) in
    let full = rw c.index_mut.ensures.value at used in
    λ w.
    let made = sentinel_kept c.self.inside.nodes.slots c.args.number c.index_mut.result.now w c.index_mut.ensures.value full _ c.self.invariant.ring in
    let count = count_kept c.self.inside.nodes.slots c.args.number c.index_mut.result.now w c.index_mut.ensures.value full in
    record {
      ring = (after_write c.self.inside.nodes.slots c.args.number c.index_mut.result.now w c.index_mut.ensures.value full c.self.inside.len c.self.invariant.ring).ring;
      first_key = any_key (slice_set c.self.inside.nodes.slots c.args.number (Some (record c.index_mut.result.now { value = Some w })))
          c.self.inside.nodes.vacant_key made;
      sentinel = λ some. made;
      room = omega (arith, count, c.self.invariant.room);
      fits = omega (arith, count, c.self.invariant.fits);
    }

pub returns : goal.returns
returns g c =
    let used = used_node c.self.inside.nodes.slots c.args.number (rw (← c.self.view_is) at c.requires) in
    let full = rw c.index_mut.ensures.value at used in
    let seen = c.as_mut.ensures.value in
    let taken = ap option_copied_mut c.unwrap.ensures in (
      (
        refl {a = c.unwrap.result.ghost_name},
        λ w.
            let order = (after_write c.self.inside.nodes.slots c.args.number c.index_mut.result.now w c.index_mut.ensures.value full c.self.inside.len c.self.invariant.ring).order in
            let slots = slots_written c.self.inside.nodes.slots c.args.number c.index_mut.result.now w c.index_mut.ensures.value full in
            rw (← c.self.view_is) (λ i. record { order = order i; slots = slots i; spare = c.self.inside.spare }),
      ),
      record {
        writes_back = tt;
        value = rw (← c.self.view_is)
            (get_view c.self.inside.nodes.slots c.args.number c.index_mut.result.now c.index_mut.ensures.value ∙ sym seen ∙ taken);
      },
    )
