use Rattle.std.proofs.Common.{sym, ap, ◌∙◌, nat_eq}
use Rattle.std.specs.List.{list_any}
use Rattle.at_model.specs.Touches.{node_of}
use Rattle.at_model.specs.Alike.{Names}
use Rattle.at_store.specs.Shifting.{brings_in}
use Rattle.at_store.specs.Shown.{numbers, path}
use Rattle.at_store.specs.View.{leaves_in, memory_of}
use Rattle.at_store.proofs.of_edits.Spared.{child_there, listed_in}
use Rattle.at_store.proofs.of_edits.ShiftsTold.{touched_told}
use Rattle.at_store.proofs.of_edits.TouchesTold.{are_marked, node_there}
use Rattle.at_store.proofs.store.Store.places.Goals as goal

pub returns : goal.returns
returns c classes old e p listed l m like unnamed =
    let mid = c.args.self.now in
    let ready = c.args.ready.now in
    let marked = are_marked classes old mid e ready.prepared p in
    let child = child_there (memory_of mid.slab) (numbers old) p.keeps.stored (node_of l) (node_of m) (node_there (Names (path old)) l m like) in
    sym (touched_told classes old mid e ready.prepared p (leaves_in mid.slab) marked l m like) ∙
    c.places_of.ensures (leaves_in mid.slab) (λ k leaves. ap (list_any (nat_eq k)) c.as_slice.ensures.value ∙ listed_in ready.leaving.items k (listed k leaves))
    (brings_in (memory_of mid.slab) ready.prepared) l child unnamed
