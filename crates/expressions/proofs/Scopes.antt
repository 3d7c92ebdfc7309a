-- Laws of the names in use: ids are below the count, and a bit tells whether a current value may be used. Assumes nothing.
use mathlib.Core.Path.{◌≡◌, refl, ap, sym, ◌∙◌}
use mathlib.Core.List.{List, [], ◌∷◌}
use mathlib.Core.Bool.{Bool, true, false}
use mathlib.Core.Option.{some}
use Prim.Native.Nat.{ℕ, zero, suc, ◌+◌, ◌≤◌, ◌<◌}
use native.Mathlib.Numerals.{add-one}
use native.Mathlib.Omega.{arith}
use lib.Seq.{drop-cons}
use lib.ListN.{length, get_or, set, drop, drop_of_length-le}
use Rattle.std.specs.List.{list_all, range_with_len}
use Rattle.arith.specs.Inner.Flags.{flags_of}
use Rattle.arith.proofs.Flags.{length_flags}
use Rattle.semantics.specs.Program.{all_true, Timer, timers_known}
use Rattle.lexer.specs.Names.{id_of, table_names, Table}
use Rattle.grammar.specs.Rules.{ruled}
use Rattle.grammar.proofs.Bytes.{id_of_lem}
use Rattle.expressions.specs.Inner.Scopes.{scope_of, Declared}
use Rattle.expressions.specs.declared.scope.Names.{Names}

pub names_length : (text starts ends : List ℕ) (n : ℕ) → length (table_names text starts ends n) ≤ n
unfolding table_names
names_length text [] ends n = omega arith
names_length text (s ∷ starts) [] n = omega arith
names_length text (s ∷ starts) (e ∷ ends) zero = omega arith
names_length text (s ∷ starts) (e ∷ ends) (suc n) = omega (arith, names_length text starts ends n)

-- as many names as are counted
counted_from : (text starts ends : List ℕ) (n : ℕ) → n ≤ length starts → n ≤ length ends → length (table_names text starts ends n) ≡ n
unfolding table_names
counted_from text [] ends n hs he = omega arith
counted_from text (s ∷ starts) [] n hs he = omega arith
counted_from text (s ∷ starts) (e ∷ ends) zero hs he = refl
counted_from text (s ∷ starts) (e ∷ ends) (suc n) hs he = ap suc (counted_from text starts ends n (omega arith) (omega arith))

pub names_counted : (text starts ends : List ℕ) (n : ℕ) → Table starts ends n → length (table_names text starts ends n) ≡ n
names_counted text starts ends n t = counted_from text starts ends n t.in_starts t.in_ends

-- flag by flag from a place on
pub all_counted : (flags : List Bool) (a m : ℕ) → a + m ≡ length flags → list_all (λ i. get_or flags i false) (range_with_len a m) ≡ all_true (drop a flags)
all_counted flags a zero e = rw (drop_of_length-le flags {i = a} (omega arith))
all_counted flags a (suc m) e = rw (drop-cons flags a false (omega arith), all_counted flags (a + 1) m (omega arith), add-one)

pub id_counted : (text starts ends : List ℕ) (n : ℕ) (w : List ℕ) (i : ℕ) → id_of (table_names text starts ends n) w ≡ some i → i < n
id_counted text starts ends n w i e = omega (arith, id_of_lem (table_names text starts ends n) w i e, names_length text starts ends n)

module _ (text : List ℕ) {starts ends : List ℕ} {names : Names} (d : Declared starts ends names) where
  pub few_names : length (scope_of text starts ends names).names ≤ 64
  few_names = omega (arith, names_length text starts ends names.count, d.few)

  pub as_long : length (scope_of text starts ends names).names ≡ length (scope_of text starts ends names).known
  as_long = names_counted text starts ends names.count d.table ∙ sym (length_flags names.count names.known)

  -- the id of a name w
  module _ (w : List ℕ) {i : ℕ} (e : id_of (scope_of text starts ends names).names w ≡ some i) where
    pub id_below : i < names.count
    id_below = id_counted text starts ends names.count w i e

    pub id_few : i < 64
    id_few = omega (arith, id_below, d.few)

-- after a rule
pub scope_ruled : (ts : List Timer) (text starts ends : List ℕ) (names after : Names) (i : ℕ) → after.count ≡ names.count → flags_of names.count after.known ≡ timers_known i ts (set (flags_of names.count names.known) i true)
    → scope_of text starts ends after ≡ ruled ts (scope_of text starts ends names) i
scope_ruled ts text starts ends names after i e k = rw (e, k)
