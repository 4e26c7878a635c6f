-- The number of each kind of token, in the order of 000, and its printed name, in bytes.
use Rattle.std.specs.Prelude.{ℕ, List, [], ◌∷◌, get_or}
use Rattle.token.specs.declared.TokenKind.{TokenKind}
use Rattle.token.specs.Shapes.{Shape, line, block, white, front, lit, life, bare, shape_of}

abbrev pub shape_number : Shape → ℕ
shape_number (line d) = 0
shape_number (block d t) = 1
shape_number white = 2
shape_number (front a b) = 3
shape_number (lit l n) = 12
shape_number (life b) = 13
shape_number (bare n) = n

abbrev pub kind_number : TokenKind → ℕ
kind_number k = shape_number (shape_of k)

-- the names, by number
abbrev pub kind_names : List (List ℕ)
kind_names =
    (76 ∷ 105 ∷ 110 ∷ 101 ∷ 67 ∷ 111 ∷ 109 ∷ 109 ∷ 101 ∷ 110 ∷ 116 ∷ []) ∷  -- LineComment
    (66 ∷ 108 ∷ 111 ∷ 99 ∷ 107 ∷ 67 ∷ 111 ∷ 109 ∷ 109 ∷ 101 ∷ 110 ∷ 116 ∷ []) ∷  -- BlockComment
    (87 ∷ 104 ∷ 105 ∷ 116 ∷ 101 ∷ 115 ∷ 112 ∷ 97 ∷ 99 ∷ 101 ∷ []) ∷  -- Whitespace
    (70 ∷ 114 ∷ 111 ∷ 110 ∷ 116 ∷ 109 ∷ 97 ∷ 116 ∷ 116 ∷ 101 ∷ 114 ∷ []) ∷  -- Frontmatter
    (73 ∷ 100 ∷ 101 ∷ 110 ∷ 116 ∷ []) ∷  -- Ident
    (73 ∷ 110 ∷ 118 ∷ 97 ∷ 108 ∷ 105 ∷ 100 ∷ 73 ∷ 100 ∷ 101 ∷ 110 ∷ 116 ∷ []) ∷  -- InvalidIdent
    (82 ∷ 97 ∷ 119 ∷ 73 ∷ 100 ∷ 101 ∷ 110 ∷ 116 ∷ []) ∷  -- RawIdent
    (70 ∷ 111 ∷ 114 ∷ 99 ∷ 101 ∷ 100 ∷ 75 ∷ 101 ∷ 121 ∷ 119 ∷ 111 ∷ 114 ∷ 100 ∷ 73 ∷ 100 ∷ 101 ∷ 110 ∷ 116 ∷ []) ∷  -- ForcedKeywordIdent
    (85 ∷ 110 ∷ 107 ∷ 110 ∷ 111 ∷ 119 ∷ 110 ∷ 80 ∷ 114 ∷ 101 ∷ 102 ∷ 105 ∷ 120 ∷ []) ∷  -- UnknownPrefix
    (85 ∷ 110 ∷ 107 ∷ 110 ∷ 111 ∷ 119 ∷ 110 ∷ 80 ∷ 114 ∷ 101 ∷ 102 ∷ 105 ∷ 120 ∷ 76 ∷ 105 ∷ 102 ∷ 101 ∷ 116 ∷ 105 ∷ 109 ∷ 101 ∷ []) ∷  -- UnknownPrefixLifetime
    (82 ∷ 97 ∷ 119 ∷ 76 ∷ 105 ∷ 102 ∷ 101 ∷ 116 ∷ 105 ∷ 109 ∷ 101 ∷ []) ∷  -- RawLifetime
    (71 ∷ 117 ∷ 97 ∷ 114 ∷ 100 ∷ 101 ∷ 100 ∷ 83 ∷ 116 ∷ 114 ∷ 80 ∷ 114 ∷ 101 ∷ 102 ∷ 105 ∷ 120 ∷ []) ∷  -- GuardedStrPrefix
    (76 ∷ 105 ∷ 116 ∷ 101 ∷ 114 ∷ 97 ∷ 108 ∷ []) ∷  -- Literal
    (76 ∷ 105 ∷ 102 ∷ 101 ∷ 116 ∷ 105 ∷ 109 ∷ 101 ∷ []) ∷  -- Lifetime
    (83 ∷ 101 ∷ 109 ∷ 105 ∷ []) ∷  -- Semi
    (67 ∷ 111 ∷ 109 ∷ 109 ∷ 97 ∷ []) ∷  -- Comma
    (68 ∷ 111 ∷ 116 ∷ []) ∷  -- Dot
    (79 ∷ 112 ∷ 101 ∷ 110 ∷ 80 ∷ 97 ∷ 114 ∷ 101 ∷ 110 ∷ []) ∷  -- OpenParen
    (67 ∷ 108 ∷ 111 ∷ 115 ∷ 101 ∷ 80 ∷ 97 ∷ 114 ∷ 101 ∷ 110 ∷ []) ∷  -- CloseParen
    (79 ∷ 112 ∷ 101 ∷ 110 ∷ 66 ∷ 114 ∷ 97 ∷ 99 ∷ 101 ∷ []) ∷  -- OpenBrace
    (67 ∷ 108 ∷ 111 ∷ 115 ∷ 101 ∷ 66 ∷ 114 ∷ 97 ∷ 99 ∷ 101 ∷ []) ∷  -- CloseBrace
    (79 ∷ 112 ∷ 101 ∷ 110 ∷ 66 ∷ 114 ∷ 97 ∷ 99 ∷ 107 ∷ 101 ∷ 116 ∷ []) ∷  -- OpenBracket
    (67 ∷ 108 ∷ 111 ∷ 115 ∷ 101 ∷ 66 ∷ 114 ∷ 97 ∷ 99 ∷ 107 ∷ 101 ∷ 116 ∷ []) ∷  -- CloseBracket
    (65 ∷ 116 ∷ []) ∷  -- At
    (80 ∷ 111 ∷ 117 ∷ 110 ∷ 100 ∷ []) ∷  -- Pound
    (84 ∷ 105 ∷ 108 ∷ 100 ∷ 101 ∷ []) ∷  -- Tilde
    (81 ∷ 117 ∷ 101 ∷ 115 ∷ 116 ∷ 105 ∷ 111 ∷ 110 ∷ []) ∷  -- Question
    (67 ∷ 111 ∷ 108 ∷ 111 ∷ 110 ∷ []) ∷  -- Colon
    (68 ∷ 111 ∷ 108 ∷ 108 ∷ 97 ∷ 114 ∷ []) ∷  -- Dollar
    (69 ∷ 113 ∷ []) ∷  -- Eq
    (66 ∷ 97 ∷ 110 ∷ 103 ∷ []) ∷  -- Bang
    (76 ∷ 116 ∷ []) ∷  -- Lt
    (71 ∷ 116 ∷ []) ∷  -- Gt
    (77 ∷ 105 ∷ 110 ∷ 117 ∷ 115 ∷ []) ∷  -- Minus
    (65 ∷ 110 ∷ 100 ∷ []) ∷  -- And
    (79 ∷ 114 ∷ []) ∷  -- Or
    (80 ∷ 108 ∷ 117 ∷ 115 ∷ []) ∷  -- Plus
    (83 ∷ 116 ∷ 97 ∷ 114 ∷ []) ∷  -- Star
    (83 ∷ 108 ∷ 97 ∷ 115 ∷ 104 ∷ []) ∷  -- Slash
    (67 ∷ 97 ∷ 114 ∷ 101 ∷ 116 ∷ []) ∷  -- Caret
    (80 ∷ 101 ∷ 114 ∷ 99 ∷ 101 ∷ 110 ∷ 116 ∷ []) ∷  -- Percent
    (85 ∷ 110 ∷ 107 ∷ 110 ∷ 111 ∷ 119 ∷ 110 ∷ []) ∷  -- Unknown
    (69 ∷ 111 ∷ 102 ∷ []) ∷  -- Eof
    []

abbrev pub kind_name : TokenKind → List ℕ
kind_name k = get_or kind_names (kind_number k) []
