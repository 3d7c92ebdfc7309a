-- `closed::walk` meets its contract. What is left to walk makes the whole (Walks.Outer, Walks.Inner). Assumes nothing.
use mathlib.Core.Path.{refl, sym, ap, ◌∙◌}
use mathlib.Core.Logic.{⊎_elim}
use Prim.Native.Nat.{◌-◌, ◌%◌, ◌<◌}
use native.Mathlib.Nat.{mod-lt, div-mul-le_self}
use native.Mathlib.Omega.{arith}
use borrow.Author.Rules.{rules}
use lib.ListN.{length}
use Rattle.closed.specs.Closed.{product_of_sizes}
use Rattle.closed.specs.Inner.Parts.{working, Walking}
use Rattle.closed.proofs.Numbering.{quotient_below}
use Rattle.closed.proofs.Walks.{AtState, AtRow, walking_kept, outer_begins, outer_ends, inner_begins, inner_stops, inner_goes, inner_ends, begins_behind, few_states}
use Rattle.closed.proofs.walk.Statement.{statement}
use Rattle.closed.proofs.walk.Tie as tie

abbrev invariant_loop : tie.invariant-loop-done
invariant_loop code low high row_low row-high rows first end state row₀ work₀ vals₀ i done₀ stop row work vals done =
    AtRow code low high row_low row-high rows first end stop state row work vals i done

abbrev decreases_loop : tie.decreases-loop-done
decreases_loop code low high row_low row-high rows first end state row₀ work₀ vals₀ i done₀ stop row work vals done = stop - done

abbrev invariant-states : tie.invariant-states
invariant-states code low high row_low row-high rows first end state₀ row₀ work₀ vals₀ i₀ done₀ state row work vals i done =
    AtState code low high row_low row-high rows first end state row work vals i done

abbrev decreases-states : tie.decreases-states
decreases-states code low high row_low row-high rows first end state₀ row₀ work₀ vals₀ i₀ done₀ state row work vals i done = end - done

nth-requires : tie.Need-nth-requires invariant_loop decreases_loop invariant-states decreases-states
nth-requires c κs = (c.requires.0.highs, c.requires.0.states)

nth-requires-2 : tie.Need-nth-requires-2 invariant_loop decreases_loop invariant-states decreases-states
nth-requires-2 c κs =
    (c.requires.0.row_highs, c.requires.0.rows)

states-holds : tie.Need-states-init invariant_loop decreases_loop invariant-states decreases-states
states-holds c =
    record {
      memory = walking_kept c.nth.auto.values c.nth-2.auto.values refl refl c.requires.0;
      among = c.requires.1.1;
      begun = λ h. div-mul-le_self c.args.first c.args.rows;
      open_yet = λ h. begins_behind c.args.first c.args.rows c.requires.1.0;
      whole = λ ns is r q e f.
          outer_begins (working ns c.args.code.now) ns is c.args.rows c.args.first c.args.end e c.nth.new.values c.nth-2.new.values
          (λ h. c.nth.ensures ns r (quotient_below c.args.first (product_of_sizes ns) c.args.rows (rw e (omega (arith, h, f)))))
          (λ h. let m : c.args.first % c.args.rows < c.args.rows = mod-lt c.args.first c.requires.1.0 in c.nth-2.ensures is q (omega (arith, m, e)));
    }

mul-behind : tie.Need-overflow_mul-i invariant_loop decreases_loop invariant-states decreases-states
mul-behind c =
    omega (arith, c.states.invariant.begun c.states-test.true, c.states-test.true, c.requires.1.2)

behind-requires : tie.Need-behind-stop-requires invariant_loop decreases_loop invariant-states decreases-states
behind-requires c κs = omega (arith, c.states.invariant.begun c.states-test.true, c.states-test.true)

loop-holds : tie.Need-loop-done-init invariant_loop decreases_loop invariant-states decreases-states
loop-holds c =
    record {
      memory = c.states.invariant.memory;
      among = omega (arith, c.behind-stop.ensures, c.states-test.true, c.states.invariant.open_yet c.states-test.true);
      begun = c.states.invariant.begun c.states-test.true;
      whole = λ ns is r q e f. inner_begins (working ns c.args.code.now) ns is c.args.rows c.args.first c.args.end e c.states.i c.states.done c.states.state c.states.row (c.states.invariant.whole ns is r q e f) c.states-test.true (c.states.invariant.open_yet c.states-test.true);
    }

is-refused-requires : tie.Need-is_refused-requires invariant_loop decreases_loop invariant-states decreases-states
is-refused-requires c κs =
    let m = c.loop-done.invariant.memory in
    (record { among = omega (arith, m.rows, m.states, m.among); lows = sym m.states; highs = m.highs ∙ sym m.states; copies = m.works ∙ sym m.states }, omega (arith, m.stack))

next-requires : tie.Need-next-requires invariant_loop decreases_loop invariant-states decreases-states
next-requires c κs =
    let m = c.loop-done.invariant.memory in (m.row_highs, m.rows)

add_done : tie.Need-overflow_add-done invariant_loop decreases_loop invariant-states decreases-states
add_done c =
    omega (arith, c.loop-done-test.true, c.behind-stop.ensures, c.requires.1.2)

loop-less : tie.Need-loop-done-smaller invariant_loop decreases_loop invariant-states decreases-states
loop-less c =
    omega (arith, c.loop-done-test.true)

loop-again : tie.Need-loop-done-preserved invariant_loop decreases_loop invariant-states decreases-states
loop-again c =
    record {
      memory = walking_kept refl c.next.auto.values c.is_refused.auto.work c.is_refused.auto.vals c.loop-done.invariant.memory;
      among = omega (arith, c.loop-done-test.true);
      begun = omega (arith, c.loop-done.invariant.begun);
      whole = λ ns is r q e f.
          inner_goes (working ns c.args.code.now) ns is c.args.rows c.args.first c.args.end e c.states.i c.loop-done.done c.states.state c.loop-done.row ((c.states.invariant.whole ns is r q e f).state_at_lem c.states-test.true) (c.loop-done.invariant.whole ns is r q e f) c.loop-done.invariant.begun
          (omega (arith, c.loop-done-test.true, c.behind-stop.ensures)) (omega (arith, c.loop-done-test.true, c.behind-stop.ensures)) c.next.new.values (sym c.if-is_refused.false ∙ c.is_refused.ensures ns r) (c.next.ensures is q);
    }

next-requires-2 : tie.Need-next-requires-in-states invariant_loop decreases_loop invariant-states decreases-states
next-requires-2 c κs = let m = c.loop-done.invariant.memory in (m.highs, m.states)

add-i : tie.Need-overflow_add-i invariant_loop decreases_loop invariant-states decreases-states
add-i c =
    omega (arith, few_states c.states.i c.args.rows c.requires.1.0, c.states.invariant.begun c.states-test.true, c.states-test.true, c.requires.1.2)

states-less : tie.Need-states-smaller invariant_loop decreases_loop invariant-states decreases-states
states-less c =
    omega (arith, c.loop-done-test.false, c.behind-stop.ensures, c.states-test.true, c.states.invariant.open_yet c.states-test.true)

states-again : tie.Need-states-preserved invariant_loop decreases_loop invariant-states decreases-states
states-again c =
    record {
      memory = walking_kept c.next-in-states.auto.values refl refl refl c.loop-done.invariant.memory;
      among = omega (arith, c.loop-done.invariant.among, c.behind-stop.ensures);
      begun = λ h. omega (arith, h, c.loop-done-test.false, c.behind-stop.ensures);
      open_yet = λ h. omega (arith, h, c.loop-done.invariant.among, c.behind-stop.ensures, c.requires.1.0);
      whole = λ ns is r q e f.
          inner_ends (working ns c.args.code.now) ns is c.args.rows c.args.first c.args.end e c.states.i c.loop-done.done c.states.state c.next-in-states.new.values c.loop-done.row ((c.states.invariant.whole ns is r q e f).state_at_lem c.states-test.true) (c.loop-done.invariant.whole ns is r q e f)
          (λ h. omega (arith, h, c.loop-done-test.false, c.loop-done.invariant.among, c.behind-stop.ensures)) f (c.next-in-states.ensures ns r);
    }

-- what the loops leave, by either way out
left : (c : tie.Left-states invariant_loop decreases_loop invariant-states decreases-states)
    → Walking c.args.low.now c.args.high.now c.args.row_low.now c.args.row_high.now c.states.state c.states-test.row c.states-test.work c.states-test.vals
left c =
    ⊎_elim
    (λ w. walking_kept refl (ap length w.row-is) (ap length w.work-is) (ap length w.vals-is) c.states.invariant.memory)
    (λ w. let k = w.is_refused.auto in walking_kept refl (ap length w.row-is) (ap length w.work-is ∙ k.work) (ap length w.vals-is ∙ k.vals) w.loop-done.invariant.memory)
    c.states-test.branch-raw

same_length : tie.Need-shape_of-state-then-done-end invariant_loop decreases_loop invariant-states decreases-states
same_length c =
    (left c.before).states ∙ sym c.requires.0.states

same-length-2 : tie.Need-shape_of-row-then-done-end invariant_loop decreases_loop invariant-states decreases-states
same-length-2 c =
    (left c.before).rows ∙ sym c.requires.0.rows

same-length-3 : tie.Need-shape_of-work-then-done-end invariant_loop decreases_loop invariant-states decreases-states
same-length-3 c =
    (left c.before).works ∙ sym c.requires.0.works

same-length-4 : tie.Need-shape_of-vals-then-done-end invariant_loop decreases_loop invariant-states decreases-states
same-length-4 c =
    (left c.before).stack ∙ sym c.requires.0.stack

-- left by the label: the loop's own end has none left
returns : tie.Need-returns-then-done-end invariant_loop decreases_loop invariant-states decreases-states
returns c =
    ⊎_elim
    (λ w. let b : ⊥ = omega (arith, w.states-test.false, w.done-is, c.if-done-end.true) in absurd b)
    (λ w. (
      λ ns is r q e f.
          rw (w.row-is, w.done-is)
          (inner_stops (working ns c.args.code.now) ns is c.args.rows c.args.first c.args.end e c.states.i w.loop-done.done c.states.state w.loop-done.row ((c.states.invariant.whole ns is r q e f).state_at_lem w.states-test.true) (w.loop-done.invariant.whole ns is r q e f) w.loop-done.invariant.begun
          (omega (arith, w.loop-done-test.true, w.behind-stop.ensures)) (omega (arith, w.loop-done-test.true, w.behind-stop.ensures)) (sym w.if-is_refused.true ∙ w.is_refused.ensures ns r)),
      omega (arith, c.if-done-end.true, c.requires.1.2),
    ))
    c.states-test.branch-raw

same-length-5 : tie.Need-shape_of-state invariant_loop decreases_loop invariant-states decreases-states
same-length-5 c =
    (left c.before).states ∙ sym c.requires.0.states

same-length-6 : tie.Need-shape_of-row invariant_loop decreases_loop invariant-states decreases-states
same-length-6 c =
    (left c.before).rows ∙ sym c.requires.0.rows

same-length-7 : tie.Need-shape_of-work invariant_loop decreases_loop invariant-states decreases-states
same-length-7 c =
    (left c.before).works ∙ sym c.requires.0.works

same-length-8 : tie.Need-shape_of-vals invariant_loop decreases_loop invariant-states decreases-states
same-length-8 c =
    (left c.before).stack ∙ sym c.requires.0.stack

returns-2 : tie.Need-returns invariant_loop decreases_loop invariant-states decreases-states
returns-2 c =
    ⊎_elim
    (λ w. (λ ns is r q e f. outer_ends (working ns c.args.code.now) ns is c.args.rows c.args.first c.args.end e c.states.i c.states.done c.states.state c.states.row (c.states.invariant.whole ns is r q e f) w.states-test.false, tt))
    (λ w. let b : ⊥ = omega (arith, w.done-is, w.loop-done-test.true, w.behind-stop.ensures, c.if-done-end.false) in absurd b)
    c.states-test.branch-raw

pub walk_spec : {M : Type 1} → statement M
walk_spec =
    tie.close
    (tie.spec invariant_loop decreases_loop invariant-states decreases-states (λ c. search rules) nth-requires (λ c. search rules) nth-requires-2 states-holds mul-behind behind-requires loop-holds is-refused-requires next-requires add_done loop-less loop-again next-requires-2 add-i states-less states-again same_length same-length-2 same-length-3 same-length-4 returns same-length-5 same-length-6 same-length-7 same-length-8 returns-2)
