-- Worked chains: what short texts build, computed from their bytes.
use Rattle.std.proofs.Common.{◌≡◌, [], ◌∷◌, Ok, refl}
use Rattle.std.specs.Prelude.{codes, ◌++◌}
use Rattle.mt_click.specs.declared.action.CreatedItem.TheVariants as created_items
use Rattle.mt_click.specs.declared.action.Side.TheVariants as sides
use Rattle.mt_click.specs.declared.connections.Port.TheVariants as port_kinds
use Rattle.mt_syntax.specs.Comment.{comment_at, hidden}
use Rattle.mt_syntax.specs.Tokens.{tokens_from}
use Rattle.mt_syntax.specs.Replacing.{argument_at, replaced_from, unknown_in}
use Rattle.mt_syntax.specs.Arguments.{tidy_after, between_commas, separated}
use Rattle.mt_syntax.specs.Reading.{read_name, read_arguments, read_use, read_number, read_right, read_inner, read_port, read_declared, read_behind, read_item, read_endpoint, read_whole_endpoint, read_done, read_first, read_next, read_names, read_name_more, read_made, read_after_name, read_left, read_class, read_begin, read_after_endpoint, read_parameter, read_after_parameter, read_head, read_advance, phrases_from}
use Rattle.mt_syntax.specs.Closing.{closing}
use Rattle.mt_syntax.specs.Words.{bytes_of, inner}
use Rattle.mt_syntax.specs.Piece.{word_at, digits_at, parameter_at, arguments_at, pair_at, mark_of, mark_at, plain_at, piece_at}
use Rattle.mt_click.specs.Actions.{is_pseudo, declared_index, class_named, is_new, class_of_name, class_of_item, is_redeclared, naming, is_own, using, counting, making, reaching, written, left_out, leaving_out, unnamed, named, item_actions, whole_endpoint, endpoint_actions, name_side, item_side, source, sink, side_behind, rooming, group_actions, class_actions, phrase_actions, actions_from}
use Rattle.mt_click.specs.Names.{first_from, classes_in, class_of, declared_in, declared_at, names_from, port_at, input_at, output_at, ports_at, ports_from}
use Rattle.mt_click.specs.Elements.{State, scope_text, arguments_in, element_of}
use Rattle.mt_click.specs.Walk.{known_names, counted, element_moved, roomed, entered, moved, walk, enter, walk_all}
use Rattle.mt_click.specs.Connections.{connections_in, item_from, source_of, target_of, connection_of, connections_from}
use Rattle.mt_click.specs.Building.{built_in}

-- a connection of two unnamed elements
unfoldable pair : State
pair = record {
  elements = record { class = codes "A"; args = []; name = []; line = 1 } ∷ record { class = codes "B"; args = []; name = []; line = 1 } ∷ [];
  created = record { enclosing = 0; offset = 0; item = created_items.Element 0 } ∷ record { enclosing = 0; offset = 3; item = created_items.Element 1 } ∷ [];
  connected = record { enclosing = 0; arrow = 1; from = sides.Created 0 0; to = sides.Created 3 0 } ∷ [];
}

pair_row : built_in (codes "A->B") ≡ Ok pair
unfolding pair comment_at hidden tokens_from argument_at replaced_from unknown_in tidy_after between_commas separated read_name read_arguments read_use read_number read_right read_inner read_port read_declared read_behind read_item read_endpoint read_whole_endpoint read_done read_first read_next read_names read_name_more read_made read_after_name read_left read_class read_begin read_after_endpoint read_parameter read_after_parameter read_head read_advance phrases_from closing bytes_of inner word_at digits_at parameter_at arguments_at pair_at mark_of mark_at plain_at piece_at is_pseudo declared_index class_named is_new class_of_name class_of_item is_redeclared naming is_own using counting making reaching written left_out leaving_out unnamed named item_actions whole_endpoint endpoint_actions name_side item_side source sink side_behind rooming group_actions class_actions phrase_actions actions_from first_from classes_in class_of declared_in declared_at names_from port_at input_at output_at ports_at ports_from arguments_in element_of known_names counted element_moved roomed entered moved walk enter walk_all item_from source_of target_of connection_of connections_from
pair_row = refl

-- the `->` of the text is one connection, from the output 0 of the first element to the input 0 of the second
pair_connection : connections_in pair ≡ record { arrow = 1; from = port_kinds.Output 0 0; to = port_kinds.Input 1 0 } ∷ []
unfolding pair item_from source_of target_of connection_of connections_from
pair_connection = refl

-- a compound class with a parameter, used once: its element has the scope of the number 0 and the argument of the use
unfoldable painted : State
painted = record {
  elements = record { class = codes "A"; args = codes "1" ∷ []; name = scope_text (0 ∷ []) ++ []; line = 1 } ∷ [];
  created = record { enclosing = 0; offset = 24; item = created_items.Use 1 } ∷ record { enclosing = 1; offset = 18; item = created_items.Element 0 } ∷ [];
  connected = [];
}

painted_row : built_in (codes "elementclass E{$p|A($p)}E(1)") ≡ Ok painted
unfolding painted comment_at hidden tokens_from argument_at replaced_from unknown_in tidy_after between_commas separated read_name read_arguments read_use read_number read_right read_inner read_port read_declared read_behind read_item read_endpoint read_whole_endpoint read_done read_first read_next read_names read_name_more read_made read_after_name read_left read_class read_begin read_after_endpoint read_parameter read_after_parameter read_head read_advance phrases_from closing bytes_of inner word_at digits_at parameter_at arguments_at pair_at mark_of mark_at plain_at piece_at is_pseudo declared_index class_named is_new class_of_name class_of_item is_redeclared naming is_own using counting making reaching written left_out leaving_out unnamed named item_actions whole_endpoint endpoint_actions name_side item_side source sink side_behind rooming group_actions class_actions phrase_actions actions_from first_from classes_in class_of declared_in declared_at names_from port_at input_at output_at ports_at ports_from arguments_in element_of known_names counted element_moved roomed entered moved walk enter walk_all item_from source_of target_of connection_of connections_from
painted_row = refl
