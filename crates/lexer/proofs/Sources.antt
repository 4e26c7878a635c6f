-- What the making of a source says of the verdict: it is refused where the verdict refuses, and made of the text and the lists where it lets through.
use Rattle.std.specs.Prelude.{Result, Ok, Err}
use Prim.Native.Nat.{ℕ}
use mathlib.Core.Path.{◌≡◌, refl, sym, ap, ◌∙◌}
use mathlib.Core.List.{List}
use Rattle.refusal.specs.declared.Bad.{Bad}
use Rattle.refusal.specs.Verdict.{Verdict, fine}
use Rattle.refusal.specs.Order.{refused_or}
use Rattle.token.specs.Lists.{Lists}
use Rattle.lexer.specs.Sources.{Source, source_of}
use Rattle.lexer.specs.Answers.{token_verdict}

abbrev of : List ℕ → Lists → Source
of s L = record { text = s; lists = L }

-- the verdict that a result of `Source::new` is made from
abbrev verdict_of : Result Source Bad → Verdict
verdict_of (Ok x) = fine
verdict_of (Err bad) = Err bad

abbrev source_in : Source → Result Source Bad → Source
source_in x (Ok y) = y
source_in x (Err bad) = x

module _ (limit : ℕ) (s : List ℕ) (L : Lists) {r : Result Source Bad} (e : r ≡ source_of limit s L) where
  told : token_verdict limit s L ≡ verdict_of r
  told = sym (ap verdict_of e ∙ go (token_verdict limit s L))
    where
      go : (v : Verdict) → verdict_of (refused_or Err v (Ok (of s L))) ≡ v
      go (Ok tt) = refl
      go (Err bad) = refl

  pub source_refused : {bad : Bad} → r ≡ Err bad → token_verdict limit s L ≡ Err bad
  source_refused k = told ∙ ap verdict_of k

  pub source_fine : {x : Source} → r ≡ Ok x → token_verdict limit s L ≡ fine
  source_fine k = told ∙ ap verdict_of k

  pub source_is : {x : Source} → r ≡ Ok x → x ≡ of s L
  source_is {x} k = sym (ap (source_in (of s L)) k) ∙ ap (source_in (of s L)) e ∙ go (token_verdict limit s L)
    where
      go : (v : Verdict) → source_in (of s L) (refused_or Err v (Ok (of s L))) ≡ of s L
      go (Ok tt) = refl
      go (Err bad) = refl
