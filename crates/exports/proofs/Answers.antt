-- Document 01, "Nothing left open": two answers that a promise allows for the same arguments are the same, and so are the two buffers.
use Prim.Native.Nat.{ℕ}
use mathlib.Core.Path.{◌≡◌, sym, ◌∙◌}
use mathlib.Core.Bool.{Bool}
use mathlib.Core.List.{List}
use Rattle.token.specs.Lists.{Lists, none}
use Rattle.exports.specs.declared.Answer.{Answer}
use Rattle.exports.specs.declared.TokenAnswer.{TokenAnswer}
use Rattle.exports.specs.declared.RawStrAnswer.{RawStrAnswer}
use Rattle.exports.specs.declared.GuardedStrAnswer.{GuardedStrAnswer}
use Rattle.exports.specs.declared.RunAnswer.{RunAnswer}
use Rattle.exports.specs.declared.ListsAnswer.{ListsAnswer}
use Rattle.exports.specs.Shebangs.{StrippedOut}
use Rattle.exports.specs.Buffers.{TokensOut, KeyOut}
use Rattle.exports.specs.Runs.{RunOut}
use Rattle.exports.specs.Files.{ListsOut, FileOut}
use Rattle.exports.proofs.lovemudarn_check.Reads as check
use Rattle.exports.proofs.lovemudarn_token.Reads as token
use Rattle.exports.proofs.lovemudarn_is_ident.Reads as ident
use Rattle.exports.proofs.lovemudarn_validate_raw_str.Reads as raw
use Rattle.exports.proofs.lovemudarn_guarded.Reads as guarded
use Rattle.exports.proofs.lovemudarn_is_whitespace.Reads as whitespace
use Rattle.exports.proofs.lovemudarn_is_horizontal_whitespace.Reads as horizontal
use Rattle.exports.proofs.lovemudarn_is_id_start.Reads as start
use Rattle.exports.proofs.lovemudarn_is_id_continue.Reads as continue
use Rattle.exports.proofs.lovemudarn_is_emoji_char.Reads as emoji

pub one_shebang : {s : List ℕ} {r q : Answer} → StrippedOut s r → StrippedOut s q → r ≡ q
one_shebang f g = f.answer none ∙ sym (g.answer none)

module _ {limit : ℕ} {s before after later : List ℕ} {L : Lists} {on : Bool} {r q : Answer} (f : TokensOut limit s L on before after r) (g : TokensOut limit s L on before later q) where
  pub one_tokens_answer : r ≡ q
  one_tokens_answer = f.answer ∙ sym g.answer

  pub one_tokens_run : after ≡ later
  one_tokens_run = f.holds ∙ sym g.holds

module _ {limit at : ℕ} {s before after later : List ℕ} {L : Lists} {on : Bool} {r q : RunAnswer} (f : RunOut limit s L at on before after r) (g : RunOut limit s L at on before later q) where
  pub one_run_answer : r ≡ q
  one_run_answer = f.answer ∙ sym g.answer

  pub one_run : after ≡ later
  one_run = f.holds ∙ sym g.holds

module _ {limit : ℕ} {s before after later : List ℕ} {L : Lists} {r q : Answer} (f : KeyOut limit s L before after r) (g : KeyOut limit s L before later q) where
  pub one_key_answer : r ≡ q
  one_key_answer = f.answer ∙ sym g.answer

  pub one_key_buffer : after ≡ later
  one_key_buffer = f.holds ∙ sym g.holds

module _ {limit : ℕ} {file a b c starts continues emoji s t u : List ℕ} {r q : ListsAnswer} (f : ListsOut limit file a b c starts continues emoji r) (g : ListsOut limit file a b c s t u q) where
  pub one_lists_answer : r ≡ q
  one_lists_answer = f.answer ∙ sym g.answer

  pub one_starts_run : starts ≡ s
  one_starts_run = f.starts_hold ∙ sym g.starts_hold

  pub one_continues_run : continues ≡ t
  one_continues_run = f.continues_hold ∙ sym g.continues_hold

  pub one_emoji_run : emoji ≡ u
  one_emoji_run = f.emoji_hold ∙ sym g.emoji_hold

module _ {limit major minor update : ℕ} {L : Lists} {before after later : List ℕ} {r q : Answer} (f : FileOut limit major minor update L before after r) (g : FileOut limit major minor update L before later q) where
  pub one_file_answer : r ≡ q
  one_file_answer = f.answer ∙ sym g.answer

  pub one_file_buffer : after ≡ later
  one_file_buffer = f.holds ∙ sym g.holds

pub one_check : (κs : _) (a : _) (r q : Answer) (x y : _) → check.Post κs a r x → check.Post κs a q y → r ≡ q
one_check κs a r q x y p e = p ∙ sym e

pub one_token : (κs : _) (a : _) (r q : TokenAnswer) (x y : _) → token.Post κs a r x → token.Post κs a q y → r ≡ q
one_token κs a r q x y p e = p ∙ sym e

pub one_ident : (κs : _) (a : _) (r q : Answer) (x y : _) → ident.Post κs a r x → ident.Post κs a q y → r ≡ q
one_ident κs a r q x y p e = p ∙ sym e

pub one_raw : (κs : _) (a : _) (r q : RawStrAnswer) (x y : _) → raw.Post κs a r x → raw.Post κs a q y → r ≡ q
one_raw κs a r q x y p e = p ∙ sym e

pub one_guarded : (κs : _) (a : _) (r q : GuardedStrAnswer) (x y : _) → guarded.Post κs a r x → guarded.Post κs a q y → r ≡ q
one_guarded κs a r q x y p e = p ∙ sym e

pub one_whitespace : (κs : _) (a : _) (r q : Bool) (x y : _) → whitespace.Post κs a r x → whitespace.Post κs a q y → r ≡ q
one_whitespace κs a r q x y p e = p ∙ sym e

pub one_horizontal : (κs : _) (a : _) (r q : Bool) (x y : _) → horizontal.Post κs a r x → horizontal.Post κs a q y → r ≡ q
one_horizontal κs a r q x y p e = p ∙ sym e

pub one_start : (κs : _) (a : _) (r q : Answer) (x y : _) → start.Post κs a r x → start.Post κs a q y → r ≡ q
one_start κs a r q x y p e = p ∙ sym e

pub one_continue : (κs : _) (a : _) (r q : Answer) (x y : _) → continue.Post κs a r x → continue.Post κs a q y → r ≡ q
one_continue κs a r q x y p e = p ∙ sym e

pub one_emoji : (κs : _) (a : _) (r q : Answer) (x y : _) → emoji.Post κs a r x → emoji.Post κs a q y → r ≡ q
one_emoji κs a r q x y p e = p ∙ sym e
