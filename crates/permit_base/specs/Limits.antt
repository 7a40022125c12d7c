-- The limits of numbers, and what a value that is tested against its limits becomes.
use Rattle.std.specs.Prelude.{ℕ, Bool, ◌&&◌, nat_le, if◌then◌else◌, Option, Some, None}

-- the number is from low to high
abbrev pub is_between : ℕ → ℕ → ℕ → Bool
is_between low high n = nat_le low n && nat_le n high

-- the most parties, parcels and files
abbrev pub most_records : ℕ
most_records = 99999

-- the most papers of a file
abbrev pub most_papers : ℕ
most_papers = 9999

-- the numbers of parties, parcels and files
abbrev pub is_object_number : ℕ → Bool
is_object_number = is_between 1 most_records

-- the latest day that the office takes, in days since 1970-01-01
abbrev pub latest_day : ℕ
latest_day = 100000

-- the greatest number that a deadline may be
abbrev pub latest_deadline : ℕ
latest_deadline = 200000

-- the greatest amount, in cents
abbrev pub most_cents : ℕ
most_cents = 9999999999999

-- days since 1970-01-01
abbrev pub is_day : ℕ → Bool
is_day = is_between 0 latest_day

-- the most days that a request names
abbrev pub most_days : ℕ
most_days = 365

-- days of an extension or of a temporary certificate
abbrev pub is_days : ℕ → Bool
is_days = is_between 1 most_days

-- the numbers of a file's papers
abbrev pub is_paper_number : ℕ → Bool
is_paper_number = is_between 1 most_papers

-- an amount in cents
abbrev pub is_cents : ℕ → Bool
is_cents = is_between 0 most_cents

-- the value, where it passes the test
abbrev pub only_if : {A : Type 0} → (A → Bool) → A → Option A
only_if test x = if test x then Some x else None
