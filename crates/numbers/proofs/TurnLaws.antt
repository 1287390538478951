-- One turn of reading digits: what the next byte says of the whole text. Assumes nothing.
use Rattle.std.proofs.Common.{◌≡◌, ℕ, ◌+◌, ◌*◌, ◌/◌, ◌%◌, ◌<◌, ◌≤◌, true, false, List, Some, None, length, get_or, drop, sym, ap, ◌∙◌}
use Rattle.spec_numbers.specs.Parse.{digit_value, digits_value}
use Rattle.spec_numbers.proofs.ParseLaws.{Turn, turn_none, turn_over, turn_step, value_end}
use Rattle.numbers.specs.Answers.{number_of}
use Rattle.numbers.specs.Room.{has_room}
use Rattle.numbers.proofs.RoomLaws.{room, no_room}

module _ (base most n : ℕ) (s : List ℕ) (i : ℕ) (whole : digits_value base most 0 s ≡ digits_value base most n (drop i s)) where
  -- behind the last byte
  pub all_read : length s ≤ i → Some n ≡ number_of (digits_value base most 0 s)
  all_read h = sym (ap number_of (whole ∙ value_end base most n s i h))

  module _ (d : ℕ) (some : 0 < base) (inside : i < length s) (worth : d ≡ digit_value (get_or s i 0)) where
    turn : Turn base most n d s 0 i
    turn = record { inside = inside; worth = worth; whole = whole }

    pub not_a_digit : base ≤ d → None ≡ number_of (digits_value base most 0 s)
    not_a_digit h = sym (ap number_of (turn_none turn h))

    -- a digit for which there is no room
    pub too_large : d < base → has_room (most / base) (most % base) n d ≡ false → None ≡ number_of (digits_value base most 0 s)
    too_large h e = sym (ap number_of (turn_over turn h (no_room base most n d some e)))

    -- and one that is taken
    pub one_more : d < base → has_room (most / base) (most % base) n d ≡ true → digits_value base most 0 s ≡ digits_value base most (n * base + d) (drop (i + 1) s)
    one_more h e = turn_step turn h (room base most n d some h e)
