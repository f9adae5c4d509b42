-- `counting::by_slices::count_pass` meets its contract. Assumes nothing.
use Rattle.std.proofs.Common.{rules, ◌<◌, false, arith}
use Rattle.laws.specs.Numbers.{Bytes}
use Rattle.counting.specs.BySlicesLaws.{narrow_ready, ready_same, all_same}
use Rattle.counting.proofs.by_slices.count_pass.Goals as goal

pub weighed_clusters-c-requires : goal.weighed_clusters-c-requires
weighed_clusters-c-requires c =
    let a = c.args in
    let nodes : Bytes a.nodes.now = λ j. omega (arith, c.type_inv.nodes j) in
    let h = c.requires.count_lengths in
    -- the size of what is answered, then the clauses
    (search rules, ((omega (arith, c.requires.ready.few), h.hanging.los, h.his, h.hanging.hosts, h.fixeds, h.gate_counts), narrow_ready _ _ _ _ _ _ _ _ _ nodes c.requires.ready))

pub count_pass-points-requires : goal.count_pass-points-requires
count_pass-points-requires c =
    let s = c.weighed_clusters-c.ensures in
    let ready = ready_same _ _ _ _ _ _ _ _ _ _ s.same (λ r p. (s.weights r p).0) (λ r p. (s.weights r p).1) c.requires.ready in
    -- the sizes of what is lent, then the clauses
    (search rules, (search rules, (ready, λ r p gated. let q : r < c.args.n = omega (arith, s.same.n_is) in let w = s.weights r q in omega (arith, c.requires.none_hopeless r q (omega arith)))))

pub returns : goal.returns
returns c =
    let s = c.weighed_clusters-c.ensures in
    all_same _ _ _ _ _ _ _ _ _ _ s.same (λ r p. (s.weights r p).0) (λ r p. (s.weights r p).1)
    _ _ _ _ _ _ _
    (λ r p. c.copy.ensures r false p) (λ r p. c.copy-2.ensures r false p) (λ r p. c.copy-3.ensures r 0 p)
    (λ r p. (c.put_branches.ensures r p).0) (λ r p. (c.put_branches.ensures r p).1) (λ r p. c.copy-4.ensures r 0 p)
    _ _ c.count_pass-points.ensures
