-- `st_writer::sign_before` meets its contract. Assumes nothing.
use borrow.Author.Rules.{rules}
use borrow.Author.Tests.{ne_eqb}
use mathlib.Core.Path.{ap}
use mathlib.Core.List.{◌++◌}
use Prim.Native.Nat.{ℕ}
use Rattle.st_writer.specs.Inner.Fronts.{sign_bytes}
use Rattle.st_writer.proofs.Laws.{as_front}
use Rattle.st_writer.proofs.sign_before.Statement.{statement}
use Rattle.st_writer.proofs.sign_before.Tie as tie

same_length : tie.Need-shape_of-out-in-4
same_length c = c.bytes_before.ensures.same

returns : tie.Need-returns-in-4
unfolding sign_bytes
returns c = as_front (λ l. ap (λ (k : ℕ). sign_bytes k ++ l) c.in-4.is) c.bytes_before.ensures

same-length-2 : tie.Need-shape_of-out-in-5
same-length-2 c = c.bytes_before-in-5.ensures.same

returns-2 : tie.Need-returns-in-5
unfolding sign_bytes
returns-2 c = as_front (λ l. ap (λ (k : ℕ). sign_bytes k ++ l) c.in-5.is) c.bytes_before-in-5.ensures

same-length-3 : tie.Need-shape_of-out-in-6
same-length-3 c = c.bytes_before-in-6.ensures.same

returns-3 : tie.Need-returns-in-6
unfolding sign_bytes
returns-3 c = as_front (λ l. ap (λ (k : ℕ). sign_bytes k ++ l) c.in-6.is) c.bytes_before-in-6.ensures

same-length-4 : tie.Need-shape_of-out-in-7
same-length-4 c = c.bytes_before-in-7.ensures.same

returns-4 : tie.Need-returns-in-7
unfolding sign_bytes
returns-4 c = as_front (λ l. ap (λ (k : ℕ). sign_bytes k ++ l) c.in-7.is) c.bytes_before-in-7.ensures

same-length-5 : tie.Need-shape_of-out-in-8
same-length-5 c = c.bytes_before-in-8.ensures.same

returns-5 : tie.Need-returns-in-8
unfolding sign_bytes
returns-5 c = as_front (λ l. ap (λ (k : ℕ). sign_bytes k ++ l) c.in-8.is) c.bytes_before-in-8.ensures

same-length-6 : tie.Need-shape_of-out-in-10
same-length-6 c = c.bytes_before-in-10.ensures.same

returns-6 : tie.Need-returns-in-10
unfolding sign_bytes
returns-6 c = as_front (λ l. ap (λ (k : ℕ). sign_bytes k ++ l) c.in-10.is) c.bytes_before-in-10.ensures

same-length-7 : tie.Need-shape_of-out-in-11
same-length-7 c = c.bytes_before-in-11.ensures.same

returns-7 : tie.Need-returns-in-11
unfolding sign_bytes
returns-7 c = as_front (λ l. ap (λ (k : ℕ). sign_bytes k ++ l) c.in-11.is) c.bytes_before-in-11.ensures

same-length-8 : tie.Need-shape_of-out-in-12
same-length-8 c = c.bytes_before-in-12.ensures.same

returns-8 : tie.Need-returns-in-12
unfolding sign_bytes
returns-8 c = as_front (λ l. ap (λ (k : ℕ). sign_bytes k ++ l) c.in-12.is) c.bytes_before-in-12.ensures

same-length-9 : tie.Need-shape_of-out-in-13
same-length-9 c = c.bytes_before-in-13.ensures.same

returns-9 : tie.Need-returns-in-13
unfolding sign_bytes
returns-9 c = as_front (λ l. ap (λ (k : ℕ). sign_bytes k ++ l) c.in-13.is) c.bytes_before-in-13.ensures

same-length-10 : tie.Need-shape_of-out-in-14
same-length-10 c = c.bytes_before-in-14.ensures.same

returns-10 : tie.Need-returns-in-14
unfolding sign_bytes
returns-10 c = as_front (λ l. ap (λ (k : ℕ). sign_bytes k ++ l) c.in-14.is) c.bytes_before-in-14.ensures

same-length-11 : tie.Need-shape_of-out-in-15
same-length-11 c = c.bytes_before-in-15.ensures.same

returns-11 : tie.Need-returns-in-15
unfolding sign_bytes
returns-11 c = as_front (λ l. ap (λ (k : ℕ). sign_bytes k ++ l) c.in-15.is) c.bytes_before-in-15.ensures

same-length-12 : tie.Need-shape_of-out-in-17
same-length-12 c = c.bytes_before-in-17.ensures.same

returns-12 : tie.Need-returns-in-17
unfolding sign_bytes
returns-12 c = as_front (λ l. ap (λ (k : ℕ). sign_bytes k ++ l) c.in-17.is) c.bytes_before-in-17.ensures

same-length-13 : tie.Need-shape_of-out-in_default
same-length-13 c = c.bytes_before-in_default.ensures.same

returns-13 : tie.Need-returns-in_default
unfolding sign_bytes
returns-13 c = as_front (λ l. rw (ne_eqb _ _ c.in_default.in_default-own.rest.0.0.0.0.0.0.0.0.0.0.0.1, ne_eqb _ _ c.in_default.in_default-own.rest.0.0.0.0.0.0.0.0.0.0.1, ne_eqb _ _ c.in_default.in_default-own.rest.0.0.0.0.0.0.0.0.0.1, ne_eqb _ _ c.in_default.in_default-own.rest.0.0.0.0.0.0.0.0.1, ne_eqb _ _ c.in_default.in_default-own.rest.0.0.0.0.0.0.0.1, ne_eqb _ _ c.in_default.in_default-own.rest.0.0.0.0.0.0.1, ne_eqb _ _ c.in_default.in_default-own.rest.0.0.0.0.0.1, ne_eqb _ _ c.in_default.in_default-own.rest.0.0.0.0.1, ne_eqb _ _ c.in_default.in_default-own.rest.0.0.0.1, ne_eqb _ _ c.in_default.in_default-own.rest.0.0.1, ne_eqb _ _ c.in_default.in_default-own.rest.0.1, ne_eqb _ _ c.in_default.in_default-own.rest.1)) c.bytes_before-in_default.ensures

pub sign_before_spec : {M : Type 1} → statement M
sign_before_spec =
    tie.close
    (tie.spec (λ c. search rules) (λ c κs. search rules) (λ c. search rules) (λ c κs. search rules) (λ c. search rules) (λ c κs. search rules) (λ c. search rules) (λ c κs. search rules) (λ c. search rules) (λ c κs. search rules) (λ c. search rules) (λ c κs. search rules) (λ c. search rules) same_length returns same-length-2 returns-2 same-length-3 returns-3 same-length-4 returns-4 same-length-5 returns-5 same-length-6 returns-6 same-length-7 returns-7 same-length-8 returns-8 same-length-9 returns-9 same-length-10 returns-10 same-length-11 returns-11 same-length-12 returns-12 same-length-13 returns-13)
