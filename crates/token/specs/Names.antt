-- Characters by name.
use Rattle.std.specs.Prelude.{ℕ, Bool, eqb}

-- the test for one character
abbrev pub is : ℕ → ℕ → Bool
is x c = eqb c x

abbrev pub 'newline' : ℕ
'newline' = 10

abbrev pub 'carriage_return' : ℕ
'carriage_return' = 13

abbrev pub 'space' : ℕ
'space' = 32

abbrev pub '!' : ℕ
'!' = 33

abbrev pub 'double' : ℕ
'double' = 34

abbrev pub '#' : ℕ
'#' = 35

abbrev pub 'single' : ℕ
'single' = 39

abbrev pub '*' : ℕ
'*' = 42

abbrev pub '+' : ℕ
'+' = 43

abbrev pub '-' : ℕ
'-' = 45

abbrev pub 'dot' : ℕ
'dot' = 46

abbrev pub '/' : ℕ
'/' = 47

abbrev pub '0' : ℕ
'0' = 48

abbrev pub 'E' : ℕ
'E' = 69

abbrev pub '[' : ℕ
'[' = 91

abbrev pub '\' : ℕ
'\' = 92

abbrev pub 'b' : ℕ
'b' = 98

abbrev pub 'c' : ℕ
'c' = 99

abbrev pub 'e' : ℕ
'e' = 101

abbrev pub 'k' : ℕ
'k' = 107

abbrev pub 'o' : ℕ
'o' = 111

abbrev pub 'r' : ℕ
'r' = 114

abbrev pub 's' : ℕ
's' = 115

abbrev pub 'u' : ℕ
'u' = 117

abbrev pub 'x' : ℕ
'x' = 120

abbrev pub 'joiner' : ℕ
'joiner' = 0x200D
