-- For private contracts: four numbers below 65,536 in one word, as the first pass keeps names and rows.
use Rattle.std.specs.Prelude.{ℕ, ◌+◌, ◌*◌, ◌/◌, ◌%◌}

abbrev pub packed : ℕ → ℕ → ℕ → ℕ → ℕ
packed a b c d = ((a * 65536 + b) * 65536 + c) * 65536 + d

abbrev pub first_in : ℕ → ℕ
first_in x = x / 281474976710656

abbrev pub second_in : ℕ → ℕ
second_in x = x / 4294967296 % 65536

abbrev pub third_in : ℕ → ℕ
third_in x = x / 65536 % 65536

abbrev pub fourth_in : ℕ → ℕ
fourth_in x = x % 65536
