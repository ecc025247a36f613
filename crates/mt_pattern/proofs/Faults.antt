-- Where a text goes wrong.
use Rattle.std.proofs.Common.{◌≡◌, ℕ, List, [], ◌∷◌, ◌++◌, length, Option, Some, None, Result, Ok, Err, refl, ap, subst, ◌∙◌, append_assoc}
use Rattle.std.proofs.lemmas.List.{append-nil}
use Rattle.mt_pattern.specs.declared.pattern.Pattern.{Pattern}
use Rattle.mt_pattern.specs.declared.parser.Parser.{Parser}
use Rattle.mt_pattern.specs.Lexis.{Token, tokens_of}
use Rattle.mt_pattern.specs.Keyword.{keyword_of}
use Rattle.mt_pattern.specs.Parser.{step_of, finish_of, ended, run, step_or_fault, start, parse_of}
use Rattle.mt_pattern.specs.Grammar.{IsSpelled, Begins, GoesWrong, at_token, at_end, IsWrongAt, IsPattern}
use Rattle.mt_pattern.specs.declared.parse.PatternFault.TheVariants.{Bad}
use Rattle.mt_pattern.specs.Cause.{IsOnlyPattern, IsCause}
use Rattle.mt_pattern.proofs.Read.{spelled_runs, spelled_is_read}
use Rattle.mt_pattern.proofs.Sound.{Stands, at_start, step_stands, finish_spells, read_is_spelled}
use Rattle.mt_pattern.proofs.Ends.{stands_begins}

-- these tokens bring the reader there, whatever follows
abbrev Brings : List Token → Parser → Type 0
Brings before p = (rest : List Token) (end : ℕ) → run start (before ++ rest) end ≡ run p rest end

run_on : (p after : Parser) (token : Token) (rest : List Token) (end : ℕ) → step_of p (keyword_of token.word) token.word ≡ Some after → run p (token ∷ rest) end ≡ run after rest end
unfolding run
run_on p after token rest end e = rw e refl

run_off : (p : Parser) (token : Token) (rest : List Token) (end : ℕ) → step_of p (keyword_of token.word) token.word ≡ None → run p (token ∷ rest) end ≡ Err token.at
unfolding run
run_off p token rest end e = rw e refl

run_out : (p : Parser) (end : ℕ) → run p [] end ≡ ended (finish_of p) end
unfolding run
run_out p end = refl

brings_on : (before : List Token) (p after : Parser) (token : Token) → Brings before p → step_of p (keyword_of token.word) token.word ≡ Some after → Brings (before ++ token ∷ []) after
brings_on before p after token b e = λ rest end. rw append_assoc (b (token ∷ rest) end ∙ run_on p after token rest end e)

apart : (r : Result Pattern ℕ) (q : Pattern) (at : ℕ) → r ≡ Ok q → r ≡ Err at → ⊥
apart r q at e f = absurd cc

none_follows : (before : List Token) (p : Parser) (token : Token) → Brings before p → step_of p (keyword_of token.word) token.word ≡ None → (more : List Token) (q : Pattern) → IsSpelled (before ++ token ∷ more) q → ⊥
none_follows before p token b e more q h =
    apart (run start (before ++ token ∷ more) 0) q token.at (spelled_runs (before ++ token ∷ more) q 0 h) (b (token ∷ more) 0 ∙ run_off p token more 0 e)

none_ends : (before : List Token) (p : Parser) → Brings before p → finish_of p ≡ None → (q : Pattern) → IsSpelled before q → ⊥
none_ends before p b e q h =
    let there = b [] 0 ∙ (run_out p 0 ∙ ap (λ found. ended found 0) e) in
    apart (run start before 0) q 0 (spelled_runs before q 0 h) (rw append-nil at there)

-- what is refused goes wrong there

end_wrong : (p : Parser) (before : List Token) (end at : ℕ) → Stands before p → Brings before p → (o : Option Pattern) → finish_of p ≡ o → ended o end ≡ Err at → GoesWrong before end at
end_wrong p before end at h b None o e =
    let i : end ≡ at = cc in
    subst (λ (n : ℕ). GoesWrong before end n) i (at_end (stands_begins p.stack p.reading before h) (none_ends before p b o))
end_wrong p before end at h b (Some q) o e = absurd cc

step_wrong : (token : Token) (tokens before : List Token) (p : Parser) (end at : ℕ) → Stands before p → Brings before p → (o : Option Parser) → step_of p (keyword_of token.word) token.word ≡ o
    → ((after : Parser) → Stands (before ++ token ∷ []) after → Brings (before ++ token ∷ []) after → run after tokens end ≡ Err at → GoesWrong ((before ++ token ∷ []) ++ tokens) end at)
    → step_or_fault o token.at (λ after. run after tokens end) ≡ Err at → GoesWrong (before ++ token ∷ tokens) end at
step_wrong token tokens before p end at h b None o go_on e =
    let i : token.at ≡ at = cc in
    subst (λ (n : ℕ). GoesWrong (before ++ token ∷ tokens) end n) i (at_token before tokens token refl (stands_begins p.stack p.reading before h) (none_follows before p token b o))
step_wrong token tokens before p end at h b (Some after) o go_on e =
    rw append_assoc at (go_on after (step_stands p.stack p.reading before token after h o) (brings_on before p after token b o) e)

rest_wrong : (tokens before : List Token) (p : Parser) (end at : ℕ) → Stands before p → Brings before p → run p tokens end ≡ Err at → GoesWrong (before ++ tokens) end at
unfolding run
rest_wrong [] before p end at h b e = rw append-nil (end_wrong p before end at h b (finish_of p) refl e)
rest_wrong (token ∷ tokens) before p end at h b e =
    step_wrong token tokens before p end at h b (step_of p (keyword_of token.word) token.word) refl
    (λ after there brings more. rest_wrong tokens (before ++ token ∷ []) after end at there brings more) e

pub refused_is_wrong : (text : List ℕ) (at : ℕ) → parse_of text ≡ Err at → IsWrongAt text at
unfolding parse_of
refused_is_wrong text at e = rest_wrong (tokens_of text) [] start (length text) at at_start (λ rest end. refl) e

-- what goes wrong is refused there

-- the reader comes behind these tokens
record Reaches (before : List Token) : Type 0 where
  pub after : Parser
  pub stands : Stands before after
  pub brings : Brings before after

step_reaches : (token : Token) (tokens before more : List Token) (p : Parser) (q : Pattern) → Stands before p → Brings before p → (o : Option Parser) → step_of p (keyword_of token.word) token.word ≡ o
    → ((after : Parser) → Stands (before ++ token ∷ []) after → Brings (before ++ token ∷ []) after → Reaches ((before ++ token ∷ []) ++ tokens))
    → IsSpelled (before ++ token ∷ (tokens ++ more)) q → Reaches (before ++ token ∷ tokens)
step_reaches token tokens before more p q h b None o go_on d = absurd (none_follows before p token b o (tokens ++ more) q d)
step_reaches token tokens before more p q h b (Some after) o go_on d =
    rw append_assoc at (go_on after (step_stands p.stack p.reading before token after h o) (brings_on before p after token b o))

reaches : (tokens before more : List Token) (p : Parser) (q : Pattern) → Stands before p → Brings before p → IsSpelled (before ++ (tokens ++ more)) q → Reaches (before ++ tokens)
reaches [] before more p q h b d = rw append-nil (record { after = p; stands = h; brings = b })
reaches (token ∷ tokens) before more p q h b d =
    step_reaches token tokens before more p q h b (step_of p (keyword_of token.word) token.word) refl
    (λ after there brings. reaches tokens (before ++ token ∷ []) more after q there brings (rw append_assoc d)) d

begins_reaches : (tokens : List Token) → Begins tokens → Reaches tokens
begins_reaches tokens b = reaches tokens [] b.0 start b.1 at_start (λ rest end. refl) b.3

token_refused : (before after : List Token) (token : Token) (end : ℕ) → (there : Reaches before) → ((more : List Token) (p : Pattern) → IsSpelled (before ++ token ∷ more) p → ⊥)
    → (o : Option Parser) → step_of there.after (keyword_of token.word) token.word ≡ o → run start (before ++ token ∷ after) end ≡ Err token.at
token_refused before after token end there none None o = there.brings (token ∷ after) end ∙ run_off there.after token after end o
token_refused before after token end there none (Some next) o =
    let b = stands_begins next.stack next.reading (before ++ token ∷ []) (step_stands there.after.stack there.after.reading before token next there.stands o) in
    absurd (none b.0 b.1 (rw append_assoc at b.3))

end_refused : (tokens : List Token) (end : ℕ) → (there : Reaches tokens) → ((p : Pattern) → IsSpelled tokens p → ⊥) → (o : Option Pattern) → finish_of there.after ≡ o → run start tokens end ≡ Err end
end_refused tokens end there none None o =
    let e = there.brings [] end ∙ (run_out there.after end ∙ ap (λ found. ended found end) o) in rw append-nil at e
end_refused tokens end there none (Some q) o = absurd (none q (finish_spells there.after.stack there.after.reading tokens q there.stands o))

wrong_refused : (tokens : List Token) (end at : ℕ) → GoesWrong tokens end at → run start tokens end ≡ Err at
wrong_refused tokens end _ (at_token before after token all b none) =
    let there = begins_reaches before b in
    rw all (token_refused before after token end there none (step_of there.after (keyword_of token.word) token.word) refl)
wrong_refused tokens end _ (at_end b none) =
    let there = begins_reaches tokens b in
    end_refused tokens end there none (finish_of there.after) refl

pub wrong_is_refused : (text : List ℕ) (at : ℕ) → IsWrongAt text at → parse_of text ≡ Err at
unfolding parse_of
wrong_is_refused text at w = wrong_refused (tokens_of text) (length text) at w

-- the answer

only_read : (text : List ℕ) (p q : Pattern) → parse_of text ≡ Ok p → parse_of text ≡ Ok q → p ≡ q
only_read text p q e f = cc

pub only_pattern : (text : List ℕ) (found : Pattern) → parse_of text ≡ Ok found → IsOnlyPattern text found
only_pattern text found e = λ p. (λ same. subst (λ (q : Pattern). IsPattern text q) same (read_is_spelled text found e), λ d. only_read text found p e (spelled_is_read text p d))

only_refused : (text : List ℕ) (at offset : ℕ) → parse_of text ≡ Err at → parse_of text ≡ Err offset → at ≡ offset
only_refused text at offset e f = cc

pub only_fault : (text : List ℕ) (at : ℕ) → parse_of text ≡ Err at → IsCause text (Bad at)
only_fault text at e = λ offset. (λ same. subst (λ (n : ℕ). IsWrongAt text n) same (refused_is_wrong text at e), λ w. only_refused text at offset e (wrong_is_refused text offset w))
