-- What the code walks over is what the relation of a text and its graph says.
use Rattle.std.proofs.Common.{◌≡◌, ℕ, ◌<◌, ◌≤◌, List, [], ◌∷◌, length, Result, Ok, Err, inl, inr, refl, sym, ap, subst, ◌∙◌}
use Rattle.std.specs.Prelude.{IfOk}
use Rattle.mt_syntax.specs.declared.fault.Fault.{Fault}
use Rattle.mt_syntax.specs.declared.fault.ClickFault.{ClickFault}
use Rattle.mt_syntax.specs.declared.phrase.Phrase.{Phrase}
use Rattle.mt_syntax.specs.Position.{located}
use Rattle.mt_syntax.specs.Reading.{◌>>=◌, phrases_in}
use Rattle.mt_syntax.specs.Grammar.{OuterTree, config_phrases, print_config}
use Rattle.mt_syntax.specs.Derives.{Derives}
use Rattle.mt_syntax.specs.Stopping.{TextStopsAt}
use Rattle.mt_syntax.specs.declared.token.Token.{Token}
use Rattle.mt_syntax.specs.Ascends.{Ascends}
use Rattle.mt_syntax.specs.Laws.{TextLaws}
use Rattle.mt_graph.specs.declared.Graph.{Graph}
use Rattle.mt_click.specs.Elements.{State}
use Rattle.mt_click.specs.Actions.{actions_in}
use Rattle.mt_click.specs.Walk.{Walked, walked}
use Rattle.mt_click.specs.Spread.{actions_of_tree}
use Rattle.mt_click.specs.Sound.{AreWithin, AreNamesApart, AreArgumentsFew}
use Rattle.mt_click.specs.Building.{built_in, IsWalked, Finds}
use Rattle.mt_click.specs.Graphs.{IsGraph, IsFault, Parses, IsOnly, OneReading, Refuses}
use Rattle.mt_click.proofs.ActionsAgree.{actions_agree}
use Rattle.mt_click.proofs.WalkExpands.{walk_expands, expands_walk}
use Rattle.mt_click.proofs.ConnectionsWhole.{expands_connected}
use Rattle.mt_click.proofs.NamesApart.{names_apart}
use Rattle.mt_click.proofs.ArgumentsFew.{arguments_few}
use Rattle.mt_click.proofs.WiresWithin.{within, at_most}
use Rattle.mt_click.proofs.OneListOfPaths.{one_graph}
use Rattle.mt_lists.proofs.Pairs.{front_pairs}

-- a text that is read derives a tree, and one that is not stops
data Case (text : List ℕ) : Type 0 where
  read : (tree : List OuterTree) → Derives text tree → Case text
  stopped : (f : Fault) → phrases_in text ≡ Err f → Case text

module _ (laws : TextLaws) where
  -- the tokens of a tree stand in the order of the text
  derived_ascends : (text : List ℕ) (tree : List OuterTree) → Derives text tree → Ascends (print_config tree)
  derived_ascends text tree d = front_pairs (λ (a b : Token). a.from < b.from) (print_config tree) (d.printed.0 ∷ []) (subst Ascends (laws.derived_tokens text tree d) (laws.ascending text))

  -- the code's walk over a text is the walk over its tree
  same_walk : (text : List ℕ) (tree : List OuterTree) → Derives text tree → walked text (actions_in text (config_phrases tree)) ≡ walked text (actions_of_tree text tree)
  same_walk text tree d = ap (walked text) (actions_agree text tree (derived_ascends text tree d))

  built_of_tree : (text : List ℕ) (tree : List OuterTree) → Derives text tree → built_in text ≡ walked text (actions_of_tree text tree)
  built_of_tree text tree d = ap (λ (r : Result (List Phrase) Fault). r >>= λ ps. walked text (actions_in text ps)) (laws.derived_is_read text tree d) ∙ same_walk text tree d

  case_of : (text : List ℕ) → Case text
  case_of text = by (phrases_in text) refl
    where
      by : (r : Result (List Phrase) Fault) → phrases_in text ≡ r → Case text
      by (Ok ps) e = let d = laws.read_is_derived text ps e in read d.0 d.1
      by (Err f) e = stopped f e

  built_stopped : (text : List ℕ) (f : Fault) → phrases_in text ≡ Err f → built_in text ≡ Err f
  built_stopped text f e = ap (λ (r : Result (List Phrase) Fault). r >>= λ ps. walked text (actions_in text ps)) e

  ok_or_fault : (s : State) (f : Fault) (r : Walked) → r ≡ Ok s → r ≡ Err f → ⊥
  ok_or_fault s f r a b = let e : Ok s ≡ Err f = sym a ∙ b in absurd cc

  same_fault : (f g : Fault) (r : Walked) → r ≡ Err f → r ≡ Err g → f ≡ g
  same_fault f g r a b = let e : Err f ≡ Err g = sym a ∙ b in cc

  -- what is walked is a graph of the text
  pub denoted : (text : List ℕ) (g : Graph) → IsWalked text g → IsGraph text g
  denoted text g i = by (case_of text)
    where
      by : Case text → IsGraph text g
      by (read tree d) =
          let expands = walk_expands text tree i.state (sym (built_of_tree text tree d) ∙ i.walk) in
          record {
            tree = tree;
            derived = d;
            state = i.state;
            expands = expands;
            connected = expands_connected text tree i.state (derived_ascends text tree d) expands;
            elements = i.elements;
            wires = i.wires;
          }
      by (stopped f e) = absurd (ok_or_fault i.state f (built_in text) i.walk (built_stopped text f e))

  -- and a graph of the text is walked
  pub undenoted : (text : List ℕ) (g : Graph) → IsGraph text g → IsWalked text g
  undenoted text g i = record {
    state = i.state;
    walk = built_of_tree text i.tree i.derived ∙ expands_walk text i.tree i.derived.config i.state i.expands;
    elements = i.elements;
    wires = i.wires;
  }

  -- the fault that is visited is that of the text
  pub fault_denoted : (text : List ℕ) (f : Fault) → built_in text ≡ Err f → IsFault text f
  fault_denoted text f h = by (case_of text)
    where
      by : Case text → IsFault text f
      by (read tree d) = inr (record { tree = tree; derived = d; walk = sym (built_of_tree text tree d) ∙ h })
      by (stopped g e) = inl (subst (TextStopsAt text) (same_fault g f (built_in text) (built_stopped text g e) h) (laws.text_stops text g e))

  pub fault_undenoted : (text : List ℕ) (f : Fault) → IsFault text f → built_in text ≡ Err f
  fault_undenoted text f (inl stops) = built_stopped text f (laws.text_fails text f stops)
  fault_undenoted text f (inr i) = built_of_tree text i.tree i.derived ∙ i.walk

  pub parses : (text : List ℕ) (r : Result Graph ClickFault) → Finds text r → Parses text r
  parses text (Ok g) h = denoted text g h
  parses text (Err e) (inl memory) = inl memory
  parses text (Err e) (inr (f, b, p)) = inr (f, fault_denoted text f b, p)

  only : (text : List ℕ) (g : Graph) → IsWalked text g → IsOnly text g
  only text g i other is = one_graph text other g (undenoted text other is) i

  pub refuses : (text : List ℕ) (r : Result Graph ClickFault) → Finds text r → Refuses text r
  refuses text (Ok g) h = tt
  refuses text (Err e) (inl memory) = inl memory
  refuses text (Err e) (inr (f, b, p)) = inr (
    (λ g i. let w = undenoted text g i in ok_or_fault w.state f (built_in text) w.walk b),
    (λ other is. p ∙ ap (located text) (same_fault f other (built_in text) b (fault_undenoted text other is))),
  )

  -- a text has one graph, or else one fault
  pub reads_once : OneReading
  reads_once = record {
    graph = λ text g i. only text g (undenoted text g i);
    either = λ text g f i at. let w = undenoted text g i in ok_or_fault w.state f (built_in text) w.walk (fault_undenoted text f at);
    fault = λ text f g at other. same_fault f g (built_in text) (fault_undenoted text f at) (fault_undenoted text g other);
  }

  names : (text : List ℕ) (g : Graph) → IsWalked text g → AreNamesApart g.elements.items
  names text g w =
      let i = denoted text g w in
      subst AreNamesApart (sym i.elements) (names_apart text i.tree i.state i.derived.config (laws.derived_named text i.tree i.derived) i.expands)

  arguments : (text : List ℕ) (g : Graph) → length text ≤ 1048576 → IsWalked text g → AreArgumentsFew 1048576 g.elements.items
  arguments text g few w =
      let i = denoted text g w in
      subst (AreArgumentsFew 1048576) (sym i.elements) (arguments_few laws text i.tree i.state few i.derived.config (laws.derived_closed text i.tree i.derived) i.expands)

  -- the same of what a function returned
  found : (text : List ℕ) (P : Graph → Type 0) → ((g : Graph) → IsWalked text g → P g) → (r : Result Graph ClickFault) → Finds text r → IfOk r P
  found text P law (Ok g) h = law g h
  found text P law (Err e) h = tt

  pub only_found : (text : List ℕ) (r : Result Graph ClickFault) → Finds text r → IfOk r (IsOnly text)
  only_found text r h = found text (IsOnly text) (only text) r h

  pub few_found : (text : List ℕ) (r : Result Graph ClickFault) → Finds text r → IfOk r (λ g. length g.elements.items ≤ 512)
  few_found text r h = found text (λ g. length g.elements.items ≤ 512) (at_most text) r h

  pub within_found : (text : List ℕ) (r : Result Graph ClickFault) → Finds text r → IfOk r (λ g. AreWithin (length g.elements.items) g.wires.items)
  within_found text r h = found text (λ g. AreWithin (length g.elements.items) g.wires.items) (within text) r h

  pub names_found : (text : List ℕ) (r : Result Graph ClickFault) → Finds text r → IfOk r (λ g. AreNamesApart g.elements.items)
  names_found text r h = found text (λ g. AreNamesApart g.elements.items) (names text) r h

  pub arguments_found : (text : List ℕ) (r : Result Graph ClickFault) → length text ≤ 1048576 → Finds text r → IfOk r (λ g. AreArgumentsFew 1048576 g.elements.items)
  arguments_found text r few h = found text (λ g. AreArgumentsFew 1048576 g.elements.items) (λ g i. arguments text g few i) r h
