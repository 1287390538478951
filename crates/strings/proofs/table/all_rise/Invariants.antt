use Rattle.std.proofs.Common.{◌≡◌, true, ◌-◌, ◌≤◌, ◌<◌, ◌+◌, suc, length, get_or, drop, ℕ}
use Rattle.std.specs.Slice.Iter.{windows_rest, windows_size}
use Rattle.strings.proofs.table.all_rise.Given as goal

-- no end falls as far as the windows have gone
abbrev pub invariant-loop-pair : goal.invariant-loop-pair
invariant-loop-pair l =
    let rest = windows_rest l.pair-iterator in record {
      pairs : windows_size l.pair-iterator ≡ 2;
      few : length rest ≤ length l.ends;
      left : rest ≡ drop (length l.ends - length rest) l.ends;
      rise : l.rising ≡ true → (j : ℕ) → j + length rest < length l.ends → get_or l.ends j 0 ≤ get_or l.ends (suc j) 0;
    }
