-- What an answer of the code says of the text that was read. Assumes nothing.
use Rattle.std.proofs.Common.{◌≡◌, ℕ, ◌≤◌, List, Some, None, refl, ap, arith}
use Rattle.spec_numbers.specs.Parse.{Parsed, unsigned_value, negated, minus}
use Rattle.spec_numbers.specs.Parse.Parsed.{is, bad}
use Rattle.spec_numbers.specs.TwosComplement.{unsigned}
use Rattle.spec_numbers.proofs.ParseLaws.{unsigned_bound}
use Rattle.numbers.specs.Answers.{number_of}

-- what was read, by the answer
pub number_is : (p : Parsed) (n : ℕ) → number_of p ≡ Some n → p ≡ is n
number_is (is m) n e = let q : m ≡ n = cc e in ap is q
number_is bad n e = absurd (let z : ◌≡◌ {A = ℕ} 0 1 = cc e in omega arith)

pub number_bad : (p : Parsed) → number_of p ≡ None → p ≡ bad
number_bad (is m) e = absurd (let z : ◌≡◌ {A = ℕ} 0 1 = cc e in omega arith)
number_bad bad e = refl

-- minus what was read
pub negated_is : (p : Parsed) (n : ℕ) → number_of p ≡ Some n → number_of (negated p) ≡ Some (unsigned 32 (minus n))
unfolding negated
negated_is p n e = rw (number_is p n e)

pub negated_bad : (p : Parsed) → number_of p ≡ None → number_of (negated p) ≡ None
unfolding negated
negated_bad p e = rw (number_bad p e)

-- what was read is at most the largest number that may be
pub read_bound : (base most n : ℕ) (s : List ℕ) → number_of (unsigned_value base most s) ≡ Some n → n ≤ most
read_bound base most n s e = unsigned_bound base most n s (number_is (unsigned_value base most s) n e)
