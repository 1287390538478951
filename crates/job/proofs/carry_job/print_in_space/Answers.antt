use native.Mathlib.Omega.{arith}
use borrow.Author.Rules.{rules}
use Rattle.job.proofs.carry_job.print_in_space.Goals as goal

pub print_carried-requires : goal.print_carried-requires
print_carried-requires c = let p = c.requires in record { one_job = p.one_job; body_len_bound = (p.body_len_bound.0, p.body_len_bound.2); ids_len = (search rules, search rules); by_index = p.by_index }

pub print_carried-requires-2 : goal.print_carried-requires-2
print_carried-requires-2 c = let p = c.requires in record { one_job = p.one_job; body_len_bound = (p.body_len_bound.0, p.body_len_bound.2); ids_len = (search rules, omega (arith, p.body_len_bound.2)); by_index = p.by_index }
