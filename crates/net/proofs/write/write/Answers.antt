-- `net::write::write` meets its contract.
-- Assumes nothing.
use native.Mathlib.Omega.{arith}
use Rattle.std.proofs.lemmas.Result.{err_from_is_err_and}
use Rattle.net.specs.declared.refusal.Refusal.TheVariants.{Head, LentBuffer}
use Prim.Native.Nat.{◌<◌, ◌≤◌}
use Rattle.net.specs.File.{file_bytes}
use mathlib.Core.Path.{◌∙◌, refl, ap, sym}
use lib.ListN.{length}
use Rattle.net.specs.Layout.{most_obstacles}
use Rattle.net.specs.Refusal.{met}
use Rattle.net.specs.Answered.{met_refusal, answered_err, answered_ok}
use Rattle.net.specs.Versions.{version_low, section_short}
use Rattle.net.specs.Accepted.{net_right_of}
use Rattle.net.specs.Writing.{write_version, write_net, write_lent, write_done, answer-refused, answer-done, buffer-refused, buffer-done}
use Rattle.net.proofs.write.write.Goals as goal

pub returns-then-not-is_version : goal.returns-then-not-is_version
returns-then-not-is_version c =
    let a = c.args in
    let w = write_version a.version a.nodes.now a.wires.now a.obstacles.now (length a.out.now) (sym c.is_version.ensures ∙ c.if-not-is_version.true) in (
      answered_err Head 0 ∙ answer-refused a.version a.nodes.now a.wires.now a.obstacles.now (length a.out.now) _ w refl,
      buffer-refused a.version a.nodes.now a.wires.now a.obstacles.now a.out.now _ w refl,
    )

pub overflow_cast-file_version : goal.overflow_cast-file_version
overflow_cast-file_version c = omega (arith, version_low c.args.version (sym c.is_version.ensures ∙ c.if-not-is_version.false))

pub returns-in_err-net_refusal : goal.returns-in_err-net_refusal
returns-in_err-net_refusal c =
    let a = c.args in
    let v = sym c.is_version.ensures ∙ c.if-not-is_version.false in
    let p = err_from_is_err_and c.from_residual.result c.from_residual.ensures.1 in
    let m = met_refusal c.in_err-net_refusal.field-0.0 in
    let w = write_net a.version a.nodes.now a.wires.now a.obstacles.now (length a.out.now) _ v c.in_err-net_refusal.ensures m in
    rw (p.1, p.2) (
      answered_err _ 0 ∙ answer-refused a.version a.nodes.now a.wires.now a.obstacles.now (length a.out.now) _ w m,
      buffer-refused a.version a.nodes.now a.wires.now a.obstacles.now a.out.now _ w m,
    )

pub overflow_add-needed-2 : goal.overflow_add-needed-2
overflow_add-needed-2 c =
    let s = (net_right_of _ _ _ _ (sym (ap met c.in_ok-net_refusal.ensures))).sized in
    omega (arith, s.nodes_length, s.few_nodes, s.wires_length)

pub overflow_add-needed-3 : goal.overflow_add-needed-3
overflow_add-needed-3 c =
    let a = c.args in
    let s = (net_right_of _ _ _ _ (sym (ap met c.in_ok-net_refusal.ensures))).sized in
    omega (arith, s.nodes_length, s.few_nodes, s.wires_length, section_short a.version a.obstacles.now most_obstacles s.obstacles_length s.few_obstacles)

pub returns-then-out-needed : goal.returns-then-out-needed
returns-then-out-needed c =
    let a = c.args in
    let v = sym c.is_version.ensures ∙ c.if-not-is_version.false in
    let less : length a.out.now < file_bytes a.nodes.now a.wires.now a.obstacles.now = omega (arith, c.if-out-needed.true) in
    let w = write_lent a.version a.nodes.now a.wires.now a.obstacles.now (length a.out.now) _ _ v c.in_ok-net_refusal.ensures refl refl less in (
      answered_err (LentBuffer _) 0 ∙ answer-refused a.version a.nodes.now a.wires.now a.obstacles.now (length a.out.now) _ w refl,
      buffer-refused a.version a.nodes.now a.wires.now a.obstacles.now a.out.now _ w refl,
    )

pub returns : goal.returns
returns c =
    let a = c.args in
    let v = sym c.is_version.ensures ∙ c.if-not-is_version.false in
    let enough : file_bytes a.nodes.now a.wires.now a.obstacles.now ≤ length a.out.now = omega (arith, c.if-out-needed.false) in
    let w = write_done a.version a.nodes.now a.wires.now a.obstacles.now (length a.out.now) _ _ v c.in_ok-net_refusal.ensures refl refl enough in (
      answered_ok _ ∙ answer-done a.version a.nodes.now a.wires.now a.obstacles.now (length a.out.now) _ refl w,
      buffer-done a.version a.nodes.now a.wires.now a.obstacles.now a.out.now c.write_file.ensures w,
    )
