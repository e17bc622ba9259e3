-- The table of an octet's bits and the 0 inserted among them, entry by entry.
use Rattle.std.proofs.Common.{ℕ, suc, zero, ◌+◌, ◌*◌, ◌/◌, ◌%◌, ◌<◌, ◌≡◌, ◌∙◌, Bool, true, false, ◌==◌, ◌&&◌, List, [], ◌∷◌, ◌++◌, length, refl, ap, sym, subst}
use Rattle.std.proofs.Common.{arith, append_assoc}
use Rattle.std.specs.Prelude.{if◌then◌else◌, nat_lt, slice_index_or, replicate}
use Rattle.std.proofs.lemmas.Bool.{eqb-true}
use Rattle.std.proofs.lemmas.List.{append-nil}
use Rattle.x25_bits.specs.FrameCheck.{low_bits}
use Rattle.x25_bits.specs.Stuffing.{stuffed_from}
use Rattle.x25_bits.proofs.LinearLemmas.{same, same_is}
use Rattle.x25_bits.proofs.OctetTable.{both, less}

unfoldable pub stuffeds : List ℕ
stuffeds = 0 ∷ 1 ∷ 2 ∷ 3 ∷ 4 ∷ 5 ∷ 6 ∷ 7 ∷ 8 ∷ 9 ∷ 10 ∷ 11 ∷ 12 ∷ 13 ∷ 14 ∷ 15 ∷ 16 ∷ 17 ∷ 18 ∷ 19 ∷ 20 ∷ 21 ∷ 22 ∷ 23 ∷ 24 ∷ 25 ∷ 26 ∷ 27 ∷ 28 ∷ 29 ∷ 30
    ∷ 1055 ∷ 32 ∷ 33 ∷ 34 ∷ 35 ∷ 36 ∷ 37 ∷ 38 ∷ 39 ∷ 40 ∷ 41 ∷ 42 ∷ 43 ∷ 44 ∷ 45 ∷ 46 ∷ 47 ∷ 48 ∷ 49 ∷ 50 ∷ 51 ∷ 52 ∷ 53 ∷ 54 ∷ 55 ∷ 56 ∷ 57 ∷ 58 ∷ 59 ∷ 60
    ∷ 61 ∷ 1086 ∷ 1119 ∷ 64 ∷ 65 ∷ 66 ∷ 67 ∷ 68 ∷ 69 ∷ 70 ∷ 71 ∷ 72 ∷ 73 ∷ 74 ∷ 75 ∷ 76 ∷ 77 ∷ 78 ∷ 79 ∷ 80 ∷ 81 ∷ 82 ∷ 83 ∷ 84 ∷ 85 ∷ 86 ∷ 87 ∷ 88 ∷ 89 ∷ 90
    ∷ 91 ∷ 92 ∷ 93 ∷ 94 ∷ 1183 ∷ 96 ∷ 97 ∷ 98 ∷ 99 ∷ 100 ∷ 101 ∷ 102 ∷ 103 ∷ 104 ∷ 105 ∷ 106 ∷ 107 ∷ 108 ∷ 109 ∷ 110 ∷ 111 ∷ 112 ∷ 113 ∷ 114 ∷ 115 ∷ 116 ∷ 117
    ∷ 118 ∷ 119 ∷ 120 ∷ 121 ∷ 122 ∷ 123 ∷ 1148 ∷ 1149 ∷ 1214 ∷ 1247 ∷ 4224 ∷ 4225 ∷ 4226 ∷ 4227 ∷ 4228 ∷ 4229 ∷ 4230 ∷ 4231 ∷ 4232 ∷ 4233 ∷ 4234 ∷ 4235 ∷ 4236
    ∷ 4237 ∷ 4238 ∷ 4239 ∷ 4240 ∷ 4241 ∷ 4242 ∷ 4243 ∷ 4244 ∷ 4245 ∷ 4246 ∷ 4247 ∷ 4248 ∷ 4249 ∷ 4250 ∷ 4251 ∷ 4252 ∷ 4253 ∷ 4254 ∷ 5407 ∷ 4256 ∷ 4257 ∷ 4258
    ∷ 4259 ∷ 4260 ∷ 4261 ∷ 4262 ∷ 4263 ∷ 4264 ∷ 4265 ∷ 4266 ∷ 4267 ∷ 4268 ∷ 4269 ∷ 4270 ∷ 4271 ∷ 4272 ∷ 4273 ∷ 4274 ∷ 4275 ∷ 4276 ∷ 4277 ∷ 4278 ∷ 4279 ∷ 4280
    ∷ 4281 ∷ 4282 ∷ 4283 ∷ 4284 ∷ 4285 ∷ 5438 ∷ 5471 ∷ 8384 ∷ 8385 ∷ 8386 ∷ 8387 ∷ 8388 ∷ 8389 ∷ 8390 ∷ 8391 ∷ 8392 ∷ 8393 ∷ 8394 ∷ 8395 ∷ 8396 ∷ 8397 ∷ 8398
    ∷ 8399 ∷ 8400 ∷ 8401 ∷ 8402 ∷ 8403 ∷ 8404 ∷ 8405 ∷ 8406 ∷ 8407 ∷ 8408 ∷ 8409 ∷ 8410 ∷ 8411 ∷ 8412 ∷ 8413 ∷ 8414 ∷ 9631 ∷ 12512 ∷ 12513 ∷ 12514 ∷ 12515
    ∷ 12516 ∷ 12517 ∷ 12518 ∷ 12519 ∷ 12520 ∷ 12521 ∷ 12522 ∷ 12523 ∷ 12524 ∷ 12525 ∷ 12526 ∷ 12527 ∷ 16624 ∷ 16625 ∷ 16626 ∷ 16627 ∷ 16628 ∷ 16629 ∷ 16630
    ∷ 16631 ∷ 1272 ∷ 1273 ∷ 1274 ∷ 1275 ∷ 5500 ∷ 5501 ∷ 9662 ∷ 13791 ∷ 0 ∷ 1 ∷ 2 ∷ 3 ∷ 4 ∷ 5 ∷ 6 ∷ 7 ∷ 8 ∷ 9 ∷ 10 ∷ 11 ∷ 12 ∷ 13 ∷ 14 ∷ 1039 ∷ 16 ∷ 17 ∷ 18
    ∷ 19 ∷ 20 ∷ 21 ∷ 22 ∷ 23 ∷ 24 ∷ 25 ∷ 26 ∷ 27 ∷ 28 ∷ 29 ∷ 30 ∷ 1071 ∷ 32 ∷ 33 ∷ 34 ∷ 35 ∷ 36 ∷ 37 ∷ 38 ∷ 39 ∷ 40 ∷ 41 ∷ 42 ∷ 43 ∷ 44 ∷ 45 ∷ 46 ∷ 1103 ∷ 48
    ∷ 49 ∷ 50 ∷ 51 ∷ 52 ∷ 53 ∷ 54 ∷ 55 ∷ 56 ∷ 57 ∷ 58 ∷ 59 ∷ 60 ∷ 61 ∷ 1086 ∷ 1135 ∷ 64 ∷ 65 ∷ 66 ∷ 67 ∷ 68 ∷ 69 ∷ 70 ∷ 71 ∷ 72 ∷ 73 ∷ 74 ∷ 75 ∷ 76 ∷ 77 ∷ 78
    ∷ 1167 ∷ 80 ∷ 81 ∷ 82 ∷ 83 ∷ 84 ∷ 85 ∷ 86 ∷ 87 ∷ 88 ∷ 89 ∷ 90 ∷ 91 ∷ 92 ∷ 93 ∷ 94 ∷ 1199 ∷ 96 ∷ 97 ∷ 98 ∷ 99 ∷ 100 ∷ 101 ∷ 102 ∷ 103 ∷ 104 ∷ 105 ∷ 106
    ∷ 107 ∷ 108 ∷ 109 ∷ 110 ∷ 1231 ∷ 112 ∷ 113 ∷ 114 ∷ 115 ∷ 116 ∷ 117 ∷ 118 ∷ 119 ∷ 120 ∷ 121 ∷ 122 ∷ 123 ∷ 1148 ∷ 1149 ∷ 1214 ∷ 1263 ∷ 4224 ∷ 4225 ∷ 4226
    ∷ 4227 ∷ 4228 ∷ 4229 ∷ 4230 ∷ 4231 ∷ 4232 ∷ 4233 ∷ 4234 ∷ 4235 ∷ 4236 ∷ 4237 ∷ 4238 ∷ 5391 ∷ 4240 ∷ 4241 ∷ 4242 ∷ 4243 ∷ 4244 ∷ 4245 ∷ 4246 ∷ 4247 ∷ 4248
    ∷ 4249 ∷ 4250 ∷ 4251 ∷ 4252 ∷ 4253 ∷ 4254 ∷ 5423 ∷ 4256 ∷ 4257 ∷ 4258 ∷ 4259 ∷ 4260 ∷ 4261 ∷ 4262 ∷ 4263 ∷ 4264 ∷ 4265 ∷ 4266 ∷ 4267 ∷ 4268 ∷ 4269 ∷ 4270
    ∷ 5455 ∷ 4272 ∷ 4273 ∷ 4274 ∷ 4275 ∷ 4276 ∷ 4277 ∷ 4278 ∷ 4279 ∷ 4280 ∷ 4281 ∷ 4282 ∷ 4283 ∷ 4284 ∷ 4285 ∷ 5438 ∷ 5487 ∷ 8384 ∷ 8385 ∷ 8386 ∷ 8387 ∷ 8388
    ∷ 8389 ∷ 8390 ∷ 8391 ∷ 8392 ∷ 8393 ∷ 8394 ∷ 8395 ∷ 8396 ∷ 8397 ∷ 8398 ∷ 9615 ∷ 8400 ∷ 8401 ∷ 8402 ∷ 8403 ∷ 8404 ∷ 8405 ∷ 8406 ∷ 8407 ∷ 8408 ∷ 8409 ∷ 8410
    ∷ 8411 ∷ 8412 ∷ 8413 ∷ 8414 ∷ 9647 ∷ 12512 ∷ 12513 ∷ 12514 ∷ 12515 ∷ 12516 ∷ 12517 ∷ 12518 ∷ 12519 ∷ 12520 ∷ 12521 ∷ 12522 ∷ 12523 ∷ 12524 ∷ 12525 ∷ 12526
    ∷ 13775 ∷ 16624 ∷ 16625 ∷ 16626 ∷ 16627 ∷ 16628 ∷ 16629 ∷ 16630 ∷ 16631 ∷ 1272 ∷ 1273 ∷ 1274 ∷ 1275 ∷ 5500 ∷ 5501 ∷ 9662 ∷ 17903 ∷ 0 ∷ 1 ∷ 2 ∷ 3 ∷ 4 ∷ 5
    ∷ 6 ∷ 1031 ∷ 8 ∷ 9 ∷ 10 ∷ 11 ∷ 12 ∷ 13 ∷ 14 ∷ 1047 ∷ 16 ∷ 17 ∷ 18 ∷ 19 ∷ 20 ∷ 21 ∷ 22 ∷ 1063 ∷ 24 ∷ 25 ∷ 26 ∷ 27 ∷ 28 ∷ 29 ∷ 30 ∷ 1079 ∷ 32 ∷ 33 ∷ 34 ∷ 35
    ∷ 36 ∷ 37 ∷ 38 ∷ 1095 ∷ 40 ∷ 41 ∷ 42 ∷ 43 ∷ 44 ∷ 45 ∷ 46 ∷ 1111 ∷ 48 ∷ 49 ∷ 50 ∷ 51 ∷ 52 ∷ 53 ∷ 54 ∷ 1127 ∷ 56 ∷ 57 ∷ 58 ∷ 59 ∷ 60 ∷ 61 ∷ 1086 ∷ 1143 ∷ 64
    ∷ 65 ∷ 66 ∷ 67 ∷ 68 ∷ 69 ∷ 70 ∷ 1159 ∷ 72 ∷ 73 ∷ 74 ∷ 75 ∷ 76 ∷ 77 ∷ 78 ∷ 1175 ∷ 80 ∷ 81 ∷ 82 ∷ 83 ∷ 84 ∷ 85 ∷ 86 ∷ 1191 ∷ 88 ∷ 89 ∷ 90 ∷ 91 ∷ 92 ∷ 93 ∷ 94
    ∷ 1207 ∷ 96 ∷ 97 ∷ 98 ∷ 99 ∷ 100 ∷ 101 ∷ 102 ∷ 1223 ∷ 104 ∷ 105 ∷ 106 ∷ 107 ∷ 108 ∷ 109 ∷ 110 ∷ 1239 ∷ 112 ∷ 113 ∷ 114 ∷ 115 ∷ 116 ∷ 117 ∷ 118 ∷ 1255 ∷ 120
    ∷ 121 ∷ 122 ∷ 123 ∷ 1148 ∷ 1149 ∷ 1214 ∷ 1271 ∷ 4224 ∷ 4225 ∷ 4226 ∷ 4227 ∷ 4228 ∷ 4229 ∷ 4230 ∷ 5383 ∷ 4232 ∷ 4233 ∷ 4234 ∷ 4235 ∷ 4236 ∷ 4237 ∷ 4238
    ∷ 5399 ∷ 4240 ∷ 4241 ∷ 4242 ∷ 4243 ∷ 4244 ∷ 4245 ∷ 4246 ∷ 5415 ∷ 4248 ∷ 4249 ∷ 4250 ∷ 4251 ∷ 4252 ∷ 4253 ∷ 4254 ∷ 5431 ∷ 4256 ∷ 4257 ∷ 4258 ∷ 4259 ∷ 4260
    ∷ 4261 ∷ 4262 ∷ 5447 ∷ 4264 ∷ 4265 ∷ 4266 ∷ 4267 ∷ 4268 ∷ 4269 ∷ 4270 ∷ 5463 ∷ 4272 ∷ 4273 ∷ 4274 ∷ 4275 ∷ 4276 ∷ 4277 ∷ 4278 ∷ 5479 ∷ 4280 ∷ 4281 ∷ 4282
    ∷ 4283 ∷ 4284 ∷ 4285 ∷ 5438 ∷ 5495 ∷ 8384 ∷ 8385 ∷ 8386 ∷ 8387 ∷ 8388 ∷ 8389 ∷ 8390 ∷ 9607 ∷ 8392 ∷ 8393 ∷ 8394 ∷ 8395 ∷ 8396 ∷ 8397 ∷ 8398 ∷ 9623 ∷ 8400
    ∷ 8401 ∷ 8402 ∷ 8403 ∷ 8404 ∷ 8405 ∷ 8406 ∷ 9639 ∷ 8408 ∷ 8409 ∷ 8410 ∷ 8411 ∷ 8412 ∷ 8413 ∷ 8414 ∷ 9655 ∷ 12512 ∷ 12513 ∷ 12514 ∷ 12515 ∷ 12516 ∷ 12517
    ∷ 12518 ∷ 13767 ∷ 12520 ∷ 12521 ∷ 12522 ∷ 12523 ∷ 12524 ∷ 12525 ∷ 12526 ∷ 13783 ∷ 16624 ∷ 16625 ∷ 16626 ∷ 16627 ∷ 16628 ∷ 16629 ∷ 16630 ∷ 17895 ∷ 1272
    ∷ 1273 ∷ 1274 ∷ 1275 ∷ 5500 ∷ 5501 ∷ 9662 ∷ 2551 ∷ 0 ∷ 1 ∷ 2 ∷ 1027 ∷ 4 ∷ 5 ∷ 6 ∷ 1035 ∷ 8 ∷ 9 ∷ 10 ∷ 1043 ∷ 12 ∷ 13 ∷ 14 ∷ 1051 ∷ 16 ∷ 17 ∷ 18 ∷ 1059 ∷ 20
    ∷ 21 ∷ 22 ∷ 1067 ∷ 24 ∷ 25 ∷ 26 ∷ 1075 ∷ 28 ∷ 29 ∷ 30 ∷ 1083 ∷ 32 ∷ 33 ∷ 34 ∷ 1091 ∷ 36 ∷ 37 ∷ 38 ∷ 1099 ∷ 40 ∷ 41 ∷ 42 ∷ 1107 ∷ 44 ∷ 45 ∷ 46 ∷ 1115 ∷ 48
    ∷ 49 ∷ 50 ∷ 1123 ∷ 52 ∷ 53 ∷ 54 ∷ 1131 ∷ 56 ∷ 57 ∷ 58 ∷ 1139 ∷ 60 ∷ 61 ∷ 1086 ∷ 1147 ∷ 64 ∷ 65 ∷ 66 ∷ 1155 ∷ 68 ∷ 69 ∷ 70 ∷ 1163 ∷ 72 ∷ 73 ∷ 74 ∷ 1171 ∷ 76
    ∷ 77 ∷ 78 ∷ 1179 ∷ 80 ∷ 81 ∷ 82 ∷ 1187 ∷ 84 ∷ 85 ∷ 86 ∷ 1195 ∷ 88 ∷ 89 ∷ 90 ∷ 1203 ∷ 92 ∷ 93 ∷ 94 ∷ 1211 ∷ 96 ∷ 97 ∷ 98 ∷ 1219 ∷ 100 ∷ 101 ∷ 102 ∷ 1227
    ∷ 104 ∷ 105 ∷ 106 ∷ 1235 ∷ 108 ∷ 109 ∷ 110 ∷ 1243 ∷ 112 ∷ 113 ∷ 114 ∷ 1251 ∷ 116 ∷ 117 ∷ 118 ∷ 1259 ∷ 120 ∷ 121 ∷ 122 ∷ 1267 ∷ 1148 ∷ 1149 ∷ 1214 ∷ 2299
    ∷ 4224 ∷ 4225 ∷ 4226 ∷ 5379 ∷ 4228 ∷ 4229 ∷ 4230 ∷ 5387 ∷ 4232 ∷ 4233 ∷ 4234 ∷ 5395 ∷ 4236 ∷ 4237 ∷ 4238 ∷ 5403 ∷ 4240 ∷ 4241 ∷ 4242 ∷ 5411 ∷ 4244 ∷ 4245
    ∷ 4246 ∷ 5419 ∷ 4248 ∷ 4249 ∷ 4250 ∷ 5427 ∷ 4252 ∷ 4253 ∷ 4254 ∷ 5435 ∷ 4256 ∷ 4257 ∷ 4258 ∷ 5443 ∷ 4260 ∷ 4261 ∷ 4262 ∷ 5451 ∷ 4264 ∷ 4265 ∷ 4266 ∷ 5459
    ∷ 4268 ∷ 4269 ∷ 4270 ∷ 5467 ∷ 4272 ∷ 4273 ∷ 4274 ∷ 5475 ∷ 4276 ∷ 4277 ∷ 4278 ∷ 5483 ∷ 4280 ∷ 4281 ∷ 4282 ∷ 5491 ∷ 4284 ∷ 4285 ∷ 5438 ∷ 5499 ∷ 8384 ∷ 8385
    ∷ 8386 ∷ 9603 ∷ 8388 ∷ 8389 ∷ 8390 ∷ 9611 ∷ 8392 ∷ 8393 ∷ 8394 ∷ 9619 ∷ 8396 ∷ 8397 ∷ 8398 ∷ 9627 ∷ 8400 ∷ 8401 ∷ 8402 ∷ 9635 ∷ 8404 ∷ 8405 ∷ 8406 ∷ 9643
    ∷ 8408 ∷ 8409 ∷ 8410 ∷ 9651 ∷ 8412 ∷ 8413 ∷ 8414 ∷ 9659 ∷ 12512 ∷ 12513 ∷ 12514 ∷ 13763 ∷ 12516 ∷ 12517 ∷ 12518 ∷ 13771 ∷ 12520 ∷ 12521 ∷ 12522 ∷ 13779
    ∷ 12524 ∷ 12525 ∷ 12526 ∷ 13787 ∷ 16624 ∷ 16625 ∷ 16626 ∷ 17891 ∷ 16628 ∷ 16629 ∷ 16630 ∷ 17899 ∷ 1272 ∷ 1273 ∷ 1274 ∷ 2547 ∷ 5500 ∷ 5501 ∷ 9662 ∷ 6907 ∷ 0
    ∷ 1025 ∷ 2 ∷ 1029 ∷ 4 ∷ 1033 ∷ 6 ∷ 1037 ∷ 8 ∷ 1041 ∷ 10 ∷ 1045 ∷ 12 ∷ 1049 ∷ 14 ∷ 1053 ∷ 16 ∷ 1057 ∷ 18 ∷ 1061 ∷ 20 ∷ 1065 ∷ 22 ∷ 1069 ∷ 24 ∷ 1073 ∷ 26
    ∷ 1077 ∷ 28 ∷ 1081 ∷ 30 ∷ 1085 ∷ 32 ∷ 1089 ∷ 34 ∷ 1093 ∷ 36 ∷ 1097 ∷ 38 ∷ 1101 ∷ 40 ∷ 1105 ∷ 42 ∷ 1109 ∷ 44 ∷ 1113 ∷ 46 ∷ 1117 ∷ 48 ∷ 1121 ∷ 50 ∷ 1125 ∷ 52
    ∷ 1129 ∷ 54 ∷ 1133 ∷ 56 ∷ 1137 ∷ 58 ∷ 1141 ∷ 60 ∷ 1145 ∷ 1086 ∷ 2173 ∷ 64 ∷ 1153 ∷ 66 ∷ 1157 ∷ 68 ∷ 1161 ∷ 70 ∷ 1165 ∷ 72 ∷ 1169 ∷ 74 ∷ 1173 ∷ 76 ∷ 1177
    ∷ 78 ∷ 1181 ∷ 80 ∷ 1185 ∷ 82 ∷ 1189 ∷ 84 ∷ 1193 ∷ 86 ∷ 1197 ∷ 88 ∷ 1201 ∷ 90 ∷ 1205 ∷ 92 ∷ 1209 ∷ 94 ∷ 1213 ∷ 96 ∷ 1217 ∷ 98 ∷ 1221 ∷ 100 ∷ 1225 ∷ 102
    ∷ 1229 ∷ 104 ∷ 1233 ∷ 106 ∷ 1237 ∷ 108 ∷ 1241 ∷ 110 ∷ 1245 ∷ 112 ∷ 1249 ∷ 114 ∷ 1253 ∷ 116 ∷ 1257 ∷ 118 ∷ 1261 ∷ 120 ∷ 1265 ∷ 122 ∷ 1269 ∷ 1148 ∷ 2297
    ∷ 1214 ∷ 2429 ∷ 4224 ∷ 5377 ∷ 4226 ∷ 5381 ∷ 4228 ∷ 5385 ∷ 4230 ∷ 5389 ∷ 4232 ∷ 5393 ∷ 4234 ∷ 5397 ∷ 4236 ∷ 5401 ∷ 4238 ∷ 5405 ∷ 4240 ∷ 5409 ∷ 4242 ∷ 5413
    ∷ 4244 ∷ 5417 ∷ 4246 ∷ 5421 ∷ 4248 ∷ 5425 ∷ 4250 ∷ 5429 ∷ 4252 ∷ 5433 ∷ 4254 ∷ 5437 ∷ 4256 ∷ 5441 ∷ 4258 ∷ 5445 ∷ 4260 ∷ 5449 ∷ 4262 ∷ 5453 ∷ 4264 ∷ 5457
    ∷ 4266 ∷ 5461 ∷ 4268 ∷ 5465 ∷ 4270 ∷ 5469 ∷ 4272 ∷ 5473 ∷ 4274 ∷ 5477 ∷ 4276 ∷ 5481 ∷ 4278 ∷ 5485 ∷ 4280 ∷ 5489 ∷ 4282 ∷ 5493 ∷ 4284 ∷ 5497 ∷ 5438 ∷ 6781
    ∷ 8384 ∷ 9601 ∷ 8386 ∷ 9605 ∷ 8388 ∷ 9609 ∷ 8390 ∷ 9613 ∷ 8392 ∷ 9617 ∷ 8394 ∷ 9621 ∷ 8396 ∷ 9625 ∷ 8398 ∷ 9629 ∷ 8400 ∷ 9633 ∷ 8402 ∷ 9637 ∷ 8404 ∷ 9641
    ∷ 8406 ∷ 9645 ∷ 8408 ∷ 9649 ∷ 8410 ∷ 9653 ∷ 8412 ∷ 9657 ∷ 8414 ∷ 9661 ∷ 12512 ∷ 13761 ∷ 12514 ∷ 13765 ∷ 12516 ∷ 13769 ∷ 12518 ∷ 13773 ∷ 12520 ∷ 13777
    ∷ 12522 ∷ 13781 ∷ 12524 ∷ 13785 ∷ 12526 ∷ 13789 ∷ 16624 ∷ 17889 ∷ 16626 ∷ 17893 ∷ 16628 ∷ 17897 ∷ 16630 ∷ 17901 ∷ 1272 ∷ 2545 ∷ 1274 ∷ 2549 ∷ 5500 ∷ 6905
    ∷ 9662 ∷ 11133 ∷ []

-- the fields of an entry
abbrev pub low_in : ℕ → ℕ
low_in e = e % 256

abbrev pub high_in : ℕ → ℕ
high_in e = e / 256 % 4

abbrev pub more_in : ℕ → ℕ
more_in e = e / 1024 % 4

abbrev pub after_in : ℕ → ℕ
after_in e = e / 4096

-- the 1 bits at the end of the stuffed bits, where `run` of them came before
unfoldable after_from : ℕ → List Bool → ℕ
after_from run [] = run
after_from run (false ∷ bits) = after_from 0 bits
after_from run (true ∷ bits) = if run == 4 then after_from 0 bits else after_from (run + 1) bits

either : (t : Bool) (x y p q rest : List Bool) (m n : ℕ) → x ≡ p ++ stuffed_from m rest → y ≡ q ++ stuffed_from n rest
    → (if t then true ∷ false ∷ x else true ∷ y) ≡ (if t then true ∷ false ∷ p else true ∷ q) ++ stuffed_from (if t then m else n) rest
either true x y p q rest m n e f = ap (λ (l : List Bool). true ∷ false ∷ l) e
either false x y p q rest m n e f = ap (λ (l : List Bool). true ∷ l) f

stuffed_from-append : (run : ℕ) (a b : List Bool) → stuffed_from run (a ++ b) ≡ stuffed_from run a ++ stuffed_from (after_from run a) b
unfolding stuffed_from after_from
stuffed_from-append run [] b = refl
stuffed_from-append run (false ∷ a) b = ap (λ (l : List Bool). false ∷ l) (stuffed_from-append 0 a b)
stuffed_from-append run (true ∷ a) b =
    either (run == 4) (stuffed_from 0 (a ++ b)) (stuffed_from (run + 1) (a ++ b)) (stuffed_from 0 a) (stuffed_from (run + 1) a) b (after_from 0 a)
    (after_from (run + 1) a)
    (stuffed_from-append 0 a b) (stuffed_from-append (run + 1) a b)

-- an entry's stuffed bits
pub in_entry : ℕ → List Bool
in_entry e = low_bits 8 (low_in e) ++ low_bits (more_in e) (high_in e)

-- what an entry says of these bits behind `run` 1 bits
says : ℕ → List Bool → ℕ → Bool
says run bits e = same (in_entry e) (stuffed_from run bits) && ((after_in e == after_from run bits) && nat_lt (after_in e) 5)

rows : ℕ → List ℕ → Bool
rows n [] = true
rows n (e ∷ es) = says (n / 256) (low_bits 8 (n % 256)) e && rows (suc n) es

all_rows : rows 0 stuffeds ≡ true
unfolding stuffeds rows says in_entry stuffed_from after_from low_bits same
all_rows = refl

all_stuffeds : length stuffeds ≡ 1280
unfolding stuffeds
all_stuffeds = refl

row_at : (n i : ℕ) (es : List ℕ) → rows n es ≡ true → i < length es → says ((n + i) / 256) (low_bits 8 ((n + i) % 256)) (slice_index_or es i 0) ≡ true
unfolding rows
row_at n i [] h k = absurd (omega arith)
row_at n zero (e ∷ es) h k = ap (λ m. says (m / 256) (low_bits 8 (m % 256)) e) (omega arith)
    ∙ (both (says (n / 256) (low_bits 8 (n % 256)) e) (rows (suc n) es) h).0
row_at n (suc i) (e ∷ es) h k =
    let same_place : n + suc i ≡ suc n + i = omega arith in
    ap (λ m. says (m / 256) (low_bits 8 (m % 256)) (slice_index_or es i 0)) same_place
    ∙ row_at (suc n) i es (both (says (n / 256) (low_bits 8 (n % 256)) e) (rows (suc n) es) h).1 (omega arith)

abbrev pub stuffed_at : ℕ → ℕ
stuffed_at n = slice_index_or stuffeds n 0

says_so : (r o : ℕ) → r < 5 → o < 256 → says r (low_bits 8 o) (stuffed_at (r * 256 + o)) ≡ true
says_so r o h k =
    let n = r * 256 + o in
    let start : 0 + n ≡ n = omega arith in
    let inside : n < length stuffeds = omega (h, k, all_stuffeds, arith) in
    let high : n / 256 ≡ r = omega (h, k, arith) in
    let low : n % 256 ≡ o = omega (h, k, arith) in
    ap (λ x. says x (low_bits 8 o) (stuffed_at n)) (sym high) ∙ ap (λ y. says (n / 256) (low_bits 8 y) (stuffed_at n)) (sym low)
    ∙ subst (λ m. says (m / 256) (low_bits 8 (m % 256)) (stuffed_at n) ≡ true) start (row_at 0 n stuffeds all_rows inside)

pub octet_few : (r o : ℕ) → r < 5 → o < 256 → after_in (stuffed_at (r * 256 + o)) < 5
unfolding says
octet_few r o h k = less (after_in (stuffed_at (r * 256 + o))) 5 (both _ _ (both _ _ (says_so r o h k)).1).1

-- of all its bits
pub octet_stuffs : (r o : ℕ) (old new rest : List Bool) → r < 5 → o < 256 → new ≡ old ++ in_entry (stuffed_at (r * 256 + o))
    → new ++ stuffed_from (after_in (stuffed_at (r * 256 + o))) rest ≡ old ++ stuffed_from r (low_bits 8 o ++ rest)
unfolding says
octet_stuffs r o old new rest h k e =
    let entry = stuffed_at (r * 256 + o) in
    let said = both _ _ (says_so r o h k) in
    let bits : in_entry entry ≡ stuffed_from r (low_bits 8 o) = same_is _ _ said.0 in
    let after : after_in entry ≡ after_from r (low_bits 8 o) = eqb-true _ _ (both _ _ said.1).0 in
    ap (λ l. l ++ stuffed_from (after_in entry) rest) e
    ∙ append_assoc old (in_entry entry) (stuffed_from (after_in entry) rest)
    ∙ ap (λ l. old ++ l) (ap (λ l. l ++ stuffed_from (after_in entry) rest) bits ∙ ap (λ a. stuffed_from r (low_bits 8 o) ++ stuffed_from a rest) after
    ∙ sym (stuffed_from-append r (low_bits 8 o) rest))

-- an entry's bits appended in two pieces
pub in_two : (old between new : List Bool) (e : ℕ) → between ≡ old ++ low_bits 8 (low_in e) → new ≡ between ++ low_bits (more_in e) (high_in e) → new ≡ old
    ++ in_entry e
unfolding in_entry
in_two old between new e h k = k ∙ ap (λ l. l ++ low_bits (more_in e) (high_in e)) h
    ∙ append_assoc old (low_bits 8 (low_in e)) (low_bits (more_in e) (high_in e))

pub none_more : (old : List Bool) (k o : ℕ) → k ≡ 0 → old ≡ old ++ low_bits k o
unfolding low_bits
none_more old k o e = sym (append-nil old) ∙ ap (λ m. old ++ low_bits m o) (sym e)

pub ones_low : (k : ℕ) → k < 8 → low_bits k 255 ≡ replicate k true
unfolding low_bits
ones_low zero h = refl
ones_low (suc zero) h = refl
ones_low (suc (suc zero)) h = refl
ones_low (suc (suc (suc zero))) h = refl
ones_low (suc (suc (suc (suc zero)))) h = refl
ones_low (suc (suc (suc (suc (suc zero))))) h = refl
ones_low (suc (suc (suc (suc (suc (suc zero)))))) h = refl
ones_low (suc (suc (suc (suc (suc (suc (suc zero))))))) h = refl
ones_low (suc (suc (suc (suc (suc (suc (suc (suc k)))))))) h = absurd (omega arith)
