use Rattle.std.specs.Prelude.{⊤}
use Rattle.wx_json.specs.Coding.{code}
use Rattle.wx_json.specs.Machine.{next}
use Rattle.wx_json.specs.Test.{is_json_text}
use Rattle.wx_script.specs.Line.{name_at, number_at, count_at, tab_id_at, frame_id_at, file_at, extension_at, host_at, page_at, document_at, content_at, web_at, context_with, endpoint_with, declaration_with, declaration_at, flag_at, flags_at, listen_at, extension_target_at, frame_at, tab_with, tab_at, target_at, port_name_at, connect_at, post_at, disconnect_at, channel_act_with, native_at, ask_at, native_act_with, send_at, reply_with, reply_at, decline_at, request_act_with, awaited_at, await_at, echo_at, act_with, act_at, repeat_at, command_at, line_at}

-- what an answer unfolds to compute the scene of a text that is written out, but for its URLs
unfoldable pub scenes_on_literals : ⊤
unfolding code next is_json_text name_at number_at count_at tab_id_at frame_id_at file_at extension_at host_at page_at document_at content_at web_at context_with endpoint_with declaration_with declaration_at flag_at flags_at listen_at extension_target_at frame_at tab_with tab_at target_at port_name_at connect_at post_at disconnect_at channel_act_with native_at ask_at native_act_with send_at reply_with reply_at decline_at request_act_with awaited_at await_at echo_at act_with act_at repeat_at command_at line_at
scenes_on_literals = tt
