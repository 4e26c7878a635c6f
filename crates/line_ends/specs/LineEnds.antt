-- Line ends (document 02, W3; the Rust Reference, "Input format", "CRLF normalization"), of bytes or of characters alike: each CR LF is replaced by LF before
-- tokens are read, once; a CR alone stays.
use Rattle.std.specs.Prelude.{ℕ, List, [], ◌∷◌, Bool, true, not, get_or}
use Rattle.basics.specs.Choice.{pick, and}
use Rattle.eaters.specs.Find.{Place, find}
use Rattle.eaters.specs.Look.{begins}
use Rattle.token.specs.Names.{is, 'newline', 'carriage_return'}

-- c is a CR that LF follows
abbrev pub cr_lf : (c : ℕ) (after : List ℕ) → Bool
cr_lf c after = and (is 'carriage_return' c) (is 'newline' (get_or after 0 0))

-- THE REPLACED TEXT: from the left, each byte used once, of each CR LF only the LF stays. What is left is not looked at again: CR CR LF becomes CR LF
abbrev pub replaced : List ℕ → List ℕ
replaced [] = []
replaced (c ∷ cs) = pick (cr_lf c cs) (replaced cs) (c ∷ replaced cs)

-- no CR LF is there: what the laws say of keys
abbrev pub no_cr_lf : List ℕ → Bool
no_cr_lf [] = true
no_cr_lf (c ∷ cs) = and (not (cr_lf c cs)) (no_cr_lf cs)

-- CR CR LF is at the front
abbrev pub double_at : List ℕ → Bool
double_at s = begins ('carriage_return' ∷ 'carriage_return' ∷ 'newline' ∷ []) s

-- WHERE THE FIRST CR CR LF begins (refusal 10)
abbrev pub double_return : List ℕ → Place
double_return s = find double_at s
