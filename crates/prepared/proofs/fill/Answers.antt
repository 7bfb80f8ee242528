-- `prepared::fill` meets its contract by the laws of Filling.
use mathlib.Core.Path.{refl}
use Rattle.prepared.proofs.Filling.{fill_entries, fill_measured, fill_behind, fill_count, fill_room, fill_tests, fill_places, fill_points, fill_ready}
use borrow.Author.Rules.{rules}
use Rattle.prepared.proofs.fill.Goals as goal

pub overflow_mul-entries : goal.overflow_mul-entries
overflow_mul-entries c = search (rules, fill_entries)

pub overflow_mul-measured : goal.overflow_mul-measured
overflow_mul-measured c = search (rules, fill_measured)

pub put_in_table-requires : goal.put_in_table-requires
put_in_table-requires c = search (rules, fill_count, fill_room)

pub overflow_add-tests : goal.overflow_add-tests
overflow_add-tests c = search (rules, fill_behind)

pub put_tests-requires : goal.put_tests-requires
put_tests-requires c = search (rules, fill_tests)

pub unroll-end-requires : goal.unroll-end-requires
unroll-end-requires c = search (rules, fill_places)

pub point-requires : goal.point-requires
point-requires c = search (rules, fill_points)

pub returns : goal.returns
returns c = record { ready = fill_ready _ _ _ _ _ _ c.requires _ c.put_in_table.ensures _ c.put_tests.ensures _ _ c.unroll-end.ensures _ c.point.ensures _ refl }
